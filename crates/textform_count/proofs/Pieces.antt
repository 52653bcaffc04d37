-- The counting program's input in pieces: a reader that has begun holds none, one that is fed a piece holds one more, and what is printed then is the output of
-- all. By textform's laws of pieces. Assumes nothing.
use mathlib.Core.Path.{◌≡◌, refl}
use mathlib.Core.List.{List, []}
use Prim.Native.Nat.{ℕ}
use lib.ListN.{take}
use lib.Ieee.{Float}
use Rattle.std.specs.Prelude.{Option}
use Rattle.std.specs.Io.KnownBytes.{Consumes}
use Rattle.textform.specs.declared.inner.reader.Reader.{Reader}
use Rattle.textform.specs.Text.{start, step_with, fed_with}
use Rattle.textform.specs.Held.{held_state}
use Rattle.textform.specs.Kept.{keep, kept_reading}
use Rattle.textform.specs.Text.{in_turn}
use Rattle.textform.specs.Pieces.{OneRead}
use Rattle.textform.proofs.Pieces as pieces
use Rattle.textform_count.specs.Count.{count_state}
use Rattle.textform_count.specs.Print.{printed}
use Rattle.textform_count.specs.Pieces.{ReadInPieces, PrintedOfPieces}
use Rattle.textform_count.proofs.inner.count.Outputs.{begun, whole_output}

-- before the first read
pub no_pieces : (x : Option (List ℕ)) (r : Reader) (a b : List Float) → held_state r [] [] ≡ start → r.a ≡ 0 → r.b ≡ 0 → ReadInPieces x x r a b
unfolding kept_reading in_turn
no_pieces x r a b h none-of-a none-of-b = pieces.no_reads x (begun r none-of-a none-of-b a b h)

-- one piece more, fed to what is held
pub one_more_lem : (x y z : Option (List ℕ)) (r q : Reader) (a b a' b' : List Float) (piece : List ℕ) → ReadInPieces x y r a b
    → held_state q a' b' ≡ fed_with keep (held_state r a b) piece → OneRead piece → Consumes y z piece → ReadInPieces x z q a' b'
unfolding kept_reading
one_more_lem x y z r q a b a' b' piece before fed size given =
    pieces.fed_more (step_with keep) start (held_state r a b) (held_state q a' b') x y z piece before fed size given

-- after a read that gave nothing
pub nothing_more : (x y z : Option (List ℕ)) (r q : Reader) (a b a' b' : List Float) (n : ℕ) (buffer : List ℕ) → ReadInPieces x y r a b
    → held_state q a' b' ≡ fed_with keep (held_state r a b) (take n buffer) → n ≡ 0 → Consumes y z (take n buffer) → ReadInPieces x z q a' b'
unfolding kept_reading
nothing_more x y z r q a b a' b' n buffer before fed none given =
    pieces.nothing_more (step_with keep) start (held_state r a b) (held_state q a' b') x y z n buffer before fed none given

-- at the end
pub read_and_printed : (x y : Option (List ℕ)) (r : Reader) (a b : List Float) (text : List ℕ) → ReadInPieces x y r a b
    → text ≡ printed (count_state (held_state r a b)) → PrintedOfPieces x y text
unfolding kept_reading
read_and_printed x y r a b text all h =
    pieces.same_pieces all (λ bytes held. (held.0, whole_output bytes text start (held_state r a b) refl held.1 h))
