-- The walk over a near list, entry after entry: where the first near entry stands, and whether there is one. A list walked backwards has a near entry where the
-- list has one. Assumes nothing.
use Rattle.std.specs.Prelude as Std
use mathlib.Core.Path.{◌≡◌, refl, ap, ◌∙◌}
use mathlib.Core.Bool.{Bool, true, false, ◌||◌, or-false}
use mathlib.Core.List.Permᴰ
use mathlib.Core.List.{List, [], ◌∷◌}
use Prim.Native.Nat.{ℕ, ◌≤◌, ◌<◌}
use native.Mathlib.Omega.{arith}
use lib.ListN.{drop, drop_of_length-le}
use Rattle.sphericalpoint.specs.declared.SphericalPoint.{SphericalPoint}
use Rattle.std.specs.Option.{MatchOption}
use Rattle.arcstring.specs.declared.inner.vertex.Vertices.{Vertices}
use Rattle.arcstring.specs.Points.{points, point_at}
use Rattle.arcstring.proofs.Flat.{points-next, length-points}
use Rattle.arcstring_near.specs.Near.{is_near}
use Rattle.arcstring_along.specs.OnString.{first_near, near_some}
use Rattle.arcstring_along.specs.AlongLaws.{NearBackwards}
use Rattle.arcstring_along.proofs.ByPosition.{find_by_position}
use Rattle.arcstring_along.proofs.FirstFound.{FindsFirst, some_passes, any_order, found_some}
use Rattle.arcstring_check.specs.Answer.{option_of}

near_finds : (p : SphericalPoint) → FindsFirst (is_near p) (first_near p)
unfolding first_near
near_finds p = record { at-end = refl; in-turn = λ e es. refl }

-- ---- by position

-- whether the entry at k is near
abbrev pub EntryTold : SphericalPoint → Vertices → Bool → ℕ → Type 0
EntryTold p string told k = is_near p (point_at string.v.now k) ≡ told

pub near_by_position : (p : SphericalPoint) (string : Vertices) (r : Std.Option ℕ)
    → MatchOption r ((k : ℕ) → 0 ≤ k → k < string.n → EntryTold p string false k)
    (λ i. (0 ≤ i) × (i < string.n) × EntryTold p string true i × ((k : ℕ) → 0 ≤ k → k < i → EntryTold p string false k))
    → option_of r ≡ first_near p (points string.v.now)
near_by_position p string =
    find_by_position (point_at string.v.now) (λ k. drop k (points string.v.now)) string.n (λ k h. points-next string.n string.v.now k string.whole h)
    (drop_of_length-le (points string.v.now) (omega (arith, length-points string.n string.v.now string.whole))) (near_finds p)

-- ---- the verdict

pub found_near : (p : SphericalPoint) (es : List SphericalPoint) (f : Std.Option ℕ) → option_of f ≡ first_near p es → Std.is_some f ≡ near_some p es
unfolding near_some
found_near p es f = found_some f (first_near p es)

-- one of the entries is near
pub near_cons : (p e : SphericalPoint) (es : List SphericalPoint) → near_some p (e ∷ es) ≡ is_near p e || near_some p es
unfolding near_some
near_cons p e es = some_passes (near_finds p) e es

near_nil : (p : SphericalPoint) → near_some p [] ≡ false
unfolding near_some first_near
near_nil p = refl

pub near_one : (p e : SphericalPoint) → near_some p (e ∷ []) ≡ is_near p e
near_one p e = near_cons p e [] ∙ ap (λ (b : Bool). is_near p e || b) (near_nil p) ∙ or-false (is_near p e)

-- ---- a walk backwards changes no verdict

pub near_backwards : NearBackwards
unfolding near_some
near_backwards p es = any_order (near_finds p) (Permᴰ.reverse es)
