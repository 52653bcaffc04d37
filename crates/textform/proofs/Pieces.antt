-- The input in pieces, for programs that read theirs so: what holds of no byte holds of no piece, and what holds of the pieces so far passes to one piece more,
-- those that a reader gave and has no longer among them; and so does what is held of bytes fed in turn. Assumes nothing.
use mathlib.Core.Path.{◌≡◌, refl, sym, ap, ◌∙◌, subst}
use mathlib.Core.List.Memᴰ
use mathlib.Core.List.{List, [], ◌∷◌, ◌++◌, append-nil, append_assoc, flatten, Memᴰ}
use mathlib.Core.Logic.{⊎_elim}
use Prim.Native.Nat.{ℕ, ◌≤◌}
use native.Mathlib.Omega.{arith}
use lib.ListN.{length, take}
use lib.Seq.{length-take-le}
use Rattle.std.specs.Prelude.{Option, None, Some, Result, Ok, Err, IsErr}
use Rattle.std.proofs.lemmas.Bool.{false≢true}
use Rattle.std.specs.Io.KnownBytes.{Consumes}
use Rattle.textform.specs.Text.{in_turn}
use Rattle.textform.specs.Pieces.{most_read, OneRead, OfPieces, OfReads, given}
use Rattle.textform.proofs.Turns.{fed-in_pieces}

flatten_last : (pieces : List (List ℕ)) (piece : List ℕ) → flatten (pieces ++ (piece ∷ [])) ≡ flatten pieces ++ piece
unfolding flatten
flatten_last [] piece = append-nil piece
flatten_last (first ∷ pieces) piece = ap (λ (l : List ℕ). first ++ l) (flatten_last pieces piece) ∙ sym (append_assoc first (flatten pieces) piece)

-- what a read gave that gave some bytes, and no more than the buffer has
pub one_read : (n : ℕ) (bytes : List ℕ) → (n ≡ 0 → ⊥) → n ≤ length bytes → length bytes ≡ most_read → OneRead (take n bytes)
one_read n bytes some few whole = let t = length-take-le n bytes few in (omega arith, omega arith)

-- before the first piece
pub no_pieces : {P : List ℕ → Type 0} → P [] → OfPieces P
unfolding flatten
no_pieces h = record { pieces = []; each = λ piece m. absurd (Memᴰ.not-nil m); holds = h }

module _ {P Q : List ℕ → Type 0} (before : OfPieces P) where
  -- after one piece more
  pub one_more_lem : (piece : List ℕ) → OneRead piece → ((bytes : List ℕ) → P bytes → Q (bytes ++ piece)) → OfPieces Q
  one_more_lem piece size step = record {
    pieces = before.pieces ++ (piece ∷ []);
    each = λ p m.
        ⊎_elim (before.each p) (λ (n : Memᴰ p (piece ∷ [])). subst OneRead (sym (Memᴰ.eq_of_singleton n)) size)
        (Memᴰ.append_cases before.pieces m);
    holds = subst Q (sym (flatten_last before.pieces piece)) (step (flatten before.pieces) before.holds);
  }

  -- of the same pieces, what follows from what held
  pub same_pieces : ((bytes : List ℕ) → P bytes → Q bytes) → OfPieces Q
  same_pieces step = record { pieces = before.pieces; each = before.each; holds = step (flatten before.pieces) before.holds }

-- ---- pieces that a reader gave

consumed_none : (x : Option (List ℕ)) → Consumes x x []
consumed_none None = tt
consumed_none (Some xs) = refl

consumed_then : (x y z : Option (List ℕ)) (a b : List ℕ) → Consumes x y a → Consumes y z b → Consumes x z (a ++ b)
consumed_then None y z a b first second = tt
consumed_then (Some xs) None z a b first second = absurd first
consumed_then (Some xs) (Some ys) None a b first second = second
consumed_then (Some xs) (Some ys) (Some zs) a b first second = first ∙ ap (λ (l : List ℕ). a ++ l) second ∙ sym (append_assoc a b zs)

-- before the first read
pub no_reads : {P : List ℕ → Type 0} (x : Option (List ℕ)) → P [] → OfReads x x P
no_reads x h = no_pieces (consumed_none x, h)

-- ---- bytes fed in turn

-- What is held is what the bytes of the pieces lead to, from the start on; `new` is what another piece makes of it.
pub fed_more : {S : Type 0} (step : S → ℕ → S) (start held new : S) (x y z : Option (List ℕ)) (piece : List ℕ)
    → OfReads x y (λ (bytes : List ℕ). held ≡ in_turn step start bytes) → new ≡ in_turn step held piece → OneRead piece → Consumes y z piece
    → OfReads x z (λ (bytes : List ℕ). new ≡ in_turn step start bytes)
fed_more {S} step start held new x y z piece before fed size given =
    one_more_lem before piece size (λ bytes h.
    (consumed_then x y z bytes piece h.0 given, fed ∙ ap (λ (s : S). in_turn step s piece) h.1 ∙ fed-in_pieces S step start bytes piece))

-- the same after a read that gave nothing
pub nothing_more : {S : Type 0} (step : S → ℕ → S) (start held new : S) (x y z : Option (List ℕ)) (n : ℕ) (buffer : List ℕ)
    → OfReads x y (λ (bytes : List ℕ). held ≡ in_turn step start bytes) → new ≡ in_turn step held (take n buffer) → n ≡ 0 → Consumes y z (take n buffer)
    → OfReads x z (λ (bytes : List ℕ). new ≡ in_turn step start bytes)
unfolding in_turn
nothing_more {S} step start held new x y z n buffer before fed none given =
    let nothing : Consumes y z [] = subst (λ (k : ℕ). Consumes y z (take k buffer)) none given in
    let same : new ≡ held = subst (λ (k : ℕ). new ≡ in_turn step held (take k buffer)) none fed in
    same_pieces before (λ bytes h. (subst (Consumes x z) (append-nil bytes) (consumed_then x y z bytes [] h.0 nothing), same ∙ h.1))

-- a read that failed gave nothing
pub failed_fed : {S E : Type 0} (step : S → ℕ → S) (held : S) (r : Result ℕ E) (buffer : List ℕ) → IsErr r
    → held ≡ in_turn step held (take (given r) buffer)
unfolding in_turn
failed_fed step held (Ok n) buffer h = absurd (false≢true h)
failed_fed step held (Err e) buffer h = refl
