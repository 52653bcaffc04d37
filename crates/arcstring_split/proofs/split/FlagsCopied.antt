-- Flags copied out, each as 0 or 1: one more. Assumes nothing.
use mathlib.Core.Path.{◌≡◌, refl, sym, ap, ◌∙◌}
use mathlib.Core.Bool.{Bool, true, false}
use mathlib.Core.List.{List, [], ◌∷◌, ◌++◌, map-append}
use Prim.Native.Nat.{ℕ, ◌+◌, ◌≤◌, ◌<◌}
use native.Mathlib.Omega.{arith}
use lib.ListN.{length, get_or, take, set, length-map}
use lib.Seq.{length-take-le, take_all}
use Rattle.std.proofs.lemmas.List.{take_more}
use Rattle.std.specs.Int.{from_bool}
use Rattle.arcstring_check.specs.Answer.{flag_number}
use Rattle.arcstring.specs.Splice.{splice}
use Rattle.arcstring.proofs.Splices.{push_next}
use Rattle.arcstring_split.specs.Handed.{flags_of}

byte_of : (b : Bool) → from_bool b ≡ flag_number b
byte_of true = refl
byte_of false = refl

pub flags_step : (list : List Bool) (old out : List ℕ) (i x : ℕ) → i < length list → i < length old → out ≡ splice old 0 (flags_of (take i list)) →
    x ≡ from_bool (get_or list i false) → set out i x ≡ splice old 0 (flags_of (take (i + 1) list))
flags_step list old out i x h room e r =
    push_next old out (flags_of (take i list)) i x e (length-map (take i list) flag_number ∙ length-take-le i list (omega arith)) room
    ∙ ap (λ (y : ℕ). splice old 0 (flags_of (take i list) ++ (y ∷ []))) (r ∙ byte_of (get_or list i false))
    ∙ ap (splice old 0) (sym (ap flags_of (take_more list i false h) ∙ map-append flag_number (take i list) (get_or list i false ∷ [])))

pub all_flags : (list : List Bool) (old out : List ℕ) (i : ℕ) → length list ≤ i → out ≡ splice old 0 (flags_of (take i list)) →
    out ≡ splice old 0 (flags_of list)
all_flags list old out i h e = e ∙ ap (λ (bs : List Bool). splice old 0 (flags_of bs)) (take_all i list h)
