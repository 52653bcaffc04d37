-- The numbers of an answer of the string layer that C programs get in places of their own; how they get them is in arcstring_put's specs. Definitions only.
use Rattle.std.specs.Prelude.{List, ℕ, ◌*◌, eqb, length, Float}
use Rattle.std.proofs.Math.Option.{Option, none, some}
use Rattle.arcstring_check.specs.Answer.{pick, flag_number}
use Rattle.arcstring.specs.Points.{StringOf}
use Rattle.arcstring_walk.specs.Walk.{run_of}
use Rattle.arcstring_listing.specs.Listing.{Listing}
use Rattle.arcstring_put_found.specs.PutFound.{four_counts}

-- ---- a built string

abbrev pub vertex_count : {A : Type 0} → StringOf A → ℕ
vertex_count s = length s.vertices

abbrev pub closed_byte : {A : Type 0} → StringOf A → ℕ
closed_byte s = flag_number s.closed

-- ---- a run, as the place in the caller's list where it starts and its length, in floats; an empty run starts at 0

abbrev pub run_length : List Float → ℕ → ℕ → ℕ
run_length v a b = length (run_of v a b)

abbrev pub run_start : List Float → ℕ → ℕ → ℕ
run_start v a b = pick (eqb (run_length v a b) 0) 0 (3 * a)

-- ---- a listing

abbrev pub kept_count : Listing → ℕ
kept_count l = length l.marks

abbrev pub listing_counts : Listing → List ℕ
listing_counts l = four_counts l.counts

-- ---- a split: how many pieces, and 0 for uncut

abbrev pub pieces_written : {A : Type 0} → Option (List A) → ℕ
pieces_written none = 0
pieces_written (some l) = length l
