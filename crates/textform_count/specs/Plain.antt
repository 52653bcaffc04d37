-- A string built without buoys, for the contracts of inner functions. Definitions only.
use Rattle.std.specs.Prelude.{List, Float}
use Rattle.arcstring_check.specs.Answer.{Answer, answered, unless_refused, map_answer}
use Rattle.arcstring_check.specs.Check.{build_check}
use Rattle.arcstring.specs.Points.{ArcString, points, flat}
use Rattle.arcstring_build.specs.Build.{built_string}

-- what building answers for points without buoys, where there is room for every string
unfoldable pub plain_build : List Float → Answer ArcString
plain_build v = unless_refused (build_check v) (answered (built_string (points v)))

abbrev pub plain_floats : Answer ArcString → Answer (List Float)
plain_floats a = map_answer (λ (s : ArcString). flat s.vertices) a
