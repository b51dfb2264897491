use mathlib.Core.Path.{◌∙◌}
use Rattle.coherence.specs.declared.Call.TheVariants.{Load}
use Rattle.coherence.specs.Calls.{told}
use Rattle.coherence.specs.Demand3.{Answered}
use Rattle.layout.specs.Directory.{decoded}
use Rattle.capi_machine.specs.Call.{narrowed}
use Rattle.capi_machine.proofs.CallLaws.{no_room_lem, given_over}
use Rattle.capi_machine.proofs.trainer_load.Goals as goal

pub returns-then-answer-lt18 : goal.returns-then-answer-lt18
returns-then-answer-lt18 c =
    let a = c.args in
    let l = no_room_lem a.directory.now a.memory.now a.cache.now a.answer.now (Load (narrowed a.unit) a.address) c.if-answer-lt18.true in
    (c.into.ensures ∙ l.code, l.directory, l.memory, l.cache, l.answer)

pub returns : goal.returns
returns c =
    let a = c.args in
    let d = c.decode-d.ensures in
    let n = c.capped.ensures in
    let i = c.into-2.ensures in
    let s = c.load-called.ensures in
    -- the machine's call, on the directory that the bytes spell
    let w : Answered (decoded a.directory.now) a.memory.now a.cache.now (Load (narrowed a.unit) a.address) (told (decoded a.directory.now) c.load-called.result) c.load-called.new.memory c.load-called.new.cache =
    record { answers = rw (d, n, i) at s.0; memory = rw (d, n, i) at s.1; cache = rw (d, n, i) at s.2 } in
    let l = given_over a.directory.now a.memory.now a.cache.now a.answer.now _ _ _ _ w c.if-answer-lt18.false in
    let h = c.hand_over.ensures in
    (h.0 ∙ l.code, h.1 ∙ l.directory, l.memory, l.cache, h.2 ∙ l.answer)
