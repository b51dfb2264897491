use mathlib.Core.Path.{◌≡◌, refl, ap, sym, ◌∙◌}
use Rattle.coherence.specs.declared.Directory.{Directory}
use native.Mathlib.Omega.{arith}
use Rattle.std.specs.Prelude.{Result, Ok}
use Rattle.coherence.specs.Slots.{cold_directory}
use Rattle.machine.specs.declared.StartRefused.{StartRefused}
use Rattle.drill_format.specs.Drill.{zero_store, printed}
use Rattle.drill_text.proofs.DrillLaws.{long_text, started_cache, started_directory, whole_text}
use Rattle.drill_text.proofs.play.Goals as goal

ok_apart : (d e : Directory) → ◌≡◌ {A = Result Directory StartRefused} (Ok d) (Ok e) → d ≡ e
ok_apart d e h = cc

pub returns-in_default : goal.returns-in_default
unfolding printed
returns-in_default c =
    let p = c.put_refused.ensures in
    rw c.in_default.is (p.0, omega (arith, p.1))

pub returns-then-tape-gt-TAPE_MOST : goal.returns-then-tape-gt-TAPE_MOST
unfolding printed
returns-then-tape-gt-TAPE_MOST c =
    let p = c.put_refused-then-tape-gt-TAPE_MOST.ensures in
    rw (c.in-Some.is, long_text c.in-Some.tape.now c.if-tape-gt-TAPE_MOST.true) (p.0, omega (arith, p.1))

pub unwrap-directory-requires : goal.unwrap-directory-requires
unfolding zero_store
unwrap-directory-requires c = rw (started_directory _ _ _ _ c.cold_start.ensures.0 refl refl)

pub returns : goal.returns
unfolding printed zero_store
returns c =
    let zeros = started_cache _ _ _ refl refl c.cold_start.ensures.1 in
    let start = started_directory _ _ _ _ c.cold_start.ensures.0 refl refl in
    let directory = ok_apart _ _ (sym c.unwrap-directory.ensures ∙ start) in
    let text = whole_text c.in-Some.tape.now _ _ _ c.if-tape-gt-TAPE_MOST.false (directory ∙ ap cold_directory c.drill_settings.ensures) refl zeros in
    rw c.in-Some.is (rw text at c.run_tape.ensures.0, c.run_tape.ensures.1)
