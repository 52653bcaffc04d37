-- The listing of pairs with its points normalised: it has as many points, and they are normalised where they stand. Assumes nothing.
use mathlib.Core.Path.{◌≡◌, refl, sym, ap, ap₂, ◌∙◌}
use mathlib.Core.List.{List, [], ◌++◌, map, map-map}
use Prim.Native.Nat.{ℕ, ◌*◌}
use lib.ListN.{length, take, drop, length-map}
use lib.Seq.{take_at, drop_at}
use lib.Ieee.{Float}
use Rattle.sphericalpoint.specs.declared.SphericalPoint.{SphericalPoint}
use Rattle.sphericalpoint.specs.Point.{normalized_unless_short}
use Rattle.arcstring.specs.Points.{points, flat}
use Rattle.arcstring.specs.Splice.{splice}
use Rattle.arcstring.proofs.Flat.{points-flat, length-flat}
use Rattle.arcstring.proofs.Splices.{splice_front, splice_nothing}
use Rattle.arcstring_build.specs.Build.{normalized_all}
use Rattle.arcstring_pair.specs.declared.pair.Pair.{Pair}
use Rattle.arcstring_tally.specs.Pairs.{kept_marks, mark_point, mark_byte}
use Rattle.arcstring_listing.specs.Listing.{listing_of}
use Rattle.arcstring_listing.proofs.Listings.{Lists}
use Rattle.arcstring_self.specs.SelfListing.{normalized_listing}

pub lists_normalized : (ps : List Pair) → Lists ps (normalized_listing (listing_of ps))
unfolding listing_of normalized_listing
lists_normalized ps = record { as_many = length-map (kept_marks ps) _; same_counts = refl }

pub normalized-points : (ps : List Pair)
    → flat (normalized_all (map mark_point (kept_marks ps))) ≡ flat (map mark_point (normalized_listing (listing_of ps)).marks)
unfolding listing_of normalized_listing
normalized-points ps = ap flat (map-map normalized_unless_short mark_point (kept_marks ps) ∙ sym (map-map mark_point _ (kept_marks ps)))

pub normalized_bytes : (ps : List Pair) → map mark_byte (kept_marks ps) ≡ map mark_byte (normalized_listing (listing_of ps)).marks
unfolding listing_of normalized_listing
normalized_bytes ps = sym (map-map mark_byte _ (kept_marks ps))

-- the kept points at the start of a buffer, normalised where they stand
pub normalized-in_place : (ps : List Pair) (n : ℕ) (old mid last : List Float) → n ≡ length (kept_marks ps) → mid
    ≡ splice old 0 (flat (map mark_point (kept_marks ps)))
    → last ≡ flat (normalized_all (points (take (3 * n) mid))) ++ drop (3 * n) mid
    → last ≡ splice old 0 (flat (normalized_all (map mark_point (kept_marks ps))))
normalized-in_place ps n old mid last h first second =
    let qs = map mark_point (kept_marks ps) in
    let c : length qs ≡ n = length-map (kept_marks ps) mark_point ∙ sym h in
    let e : length (flat qs) ≡ 3 * n = length-flat qs ∙ ap (λ (k : ℕ). 3 * k) c in
    let m : mid ≡ flat qs ++ drop (3 * n) old = first ∙ splice_front old (3 * n) (flat qs) e in
    let t : points (take (3 * n) mid) ≡ qs = ap (λ (l : List Float). points (take (3 * n) l)) m ∙ ap points (take_at (flat qs) (drop (3 * n) old) (3 * n) e)
    ∙ points-flat qs in
    let d : drop (3 * n) mid ≡ drop (3 * n) old = ap (drop (3 * n)) m ∙ drop_at (flat qs) (drop (3 * n) old) (3 * n) e in
    let k : length (flat (normalized_all qs)) ≡ 3 * n = length-flat (normalized_all qs) ∙ ap (λ (j : ℕ). 3 * j) (length-map qs normalized_unless_short ∙ c) in
    second ∙ ap₂ (λ (rs : List SphericalPoint) (r : List Float). flat (normalized_all rs) ++ r) t d
    ∙ sym (splice_front old (3 * n) (flat (normalized_all qs)) k)

pub none_normalized : (ps : List Pair) (points : List Float) (marks : List ℕ) → kept_marks ps ≡ []
    → (points ≡ splice points 0 (flat (normalized_all (map mark_point (kept_marks ps))))) × (marks ≡ splice marks 0 (map mark_byte (kept_marks ps)))
none_normalized ps points marks h = rw h (sym (splice_nothing points 0), sym (splice_nothing marks 0))
