-- What a cold start answers, of which a refused one has its directory besides.
use Rattle.std.specs.Prelude.{Result, Ok, Err}
use Rattle.order.specs.declared.Refusal.{Refusal}
use Rattle.coherence.specs.declared.Directory.{Directory}
use Rattle.machine.specs.declared.StartRefused.{StartRefused}

-- the refusal alone
abbrev pub refusal_alone : Result Directory StartRefused → Result Directory Refusal
refusal_alone (Ok d) = Ok d
refusal_alone (Err e) = Err e.refusal
