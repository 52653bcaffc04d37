-- What the pair call answers: `arcs_crossing` of arcstring_pair, as the code has it. Definitions only.
use Rattle.std.specs.Prelude.{Result, Ok, Err}
use Rattle.arcstring_check.specs.Answer.{Answer, refused, answered, refusal_number}
use Rattle.arcstring_pair.specs.Pair.{Judged, judged}
use Rattle.arcstring_check.specs.declared.check.Refusal.{Refusal}
use Rattle.arcstring_pair.specs.declared.pair.Pair.{Pair}

abbrev pub crossed_answer : Result Pair Refusal → Answer Judged
crossed_answer (Ok p) = answered (judged p)
crossed_answer (Err e) = refused (refusal_number e)
