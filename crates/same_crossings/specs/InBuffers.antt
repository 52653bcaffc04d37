-- Demand 3 in terms of the buffers that walks and restarts are lent and leave, as their contracts have it. Definitions only. The proofs are `read_back`,
-- `demand_3_in_buffers` and `displays_agree` of `proofs/InBuffers.antt`.
use Rattle.std.specs.Prelude.{◌≡◌, List, [], ◌∷◌, ℕ, ◌*◌, length, take, Float}
use Rattle.arcstring_check.specs.Answer.{Answer, refused, answered, leaves}
use Rattle.arcstring.specs.declared.inner.vertex.Vertex.{Vertex}
use Rattle.arcstring_walk.specs.Walk.{walk_back, restart}
use Rattle.arcstring.specs.Written.{written_result, written_floats, without_buoys, written_buoys}
use Rattle.same_crossings.specs.Changes.{Held, TwoStrings, Accepted, Which, replaced, change_one, change, trade, counts_of_two, SameCrossings}

-- ---- a caller with buffers

-- What a caller holds after a walk or a restart: it reads how many vertices n there are, and takes the first 3 * n floats of the one buffer and the first n
-- numbers of the other. After a refusal it goes on with what it held.
abbrev pub taken_up : Held → Answer ℕ → List Float → List ℕ → Held
taken_up s (refused k) out numbers = s
taken_up s (answered n) out numbers = record { vertices = take (3 * n) out; buoys = take n numbers; near = s.near; closed = s.closed }

-- A call that answers `a`, lent these two buffers: what it returns and what it leaves in each is as in the contracts of `walk_back` and `restart`.
abbrev pub after_call : Held → Answer (List Vertex) → List Float → List ℕ → Held
after_call s a out numbers = taken_up s (written_result a) (leaves (written_floats (without_buoys a)) out) (leaves (written_buoys a) numbers)

abbrev pub back_through : List Float → List ℕ → Held → Held
back_through out numbers s = after_call s (walk_back s.vertices s.buoys (length out) (length numbers)) out numbers

abbrev pub restart_through : ℕ → List Float → List ℕ → Held → Held
restart_through k out numbers s = after_call s (restart s.vertices s.buoys s.closed k (length out) (length numbers)) out numbers

-- The strings trade places; or one of them is walked backwards, or restarted at a position, through buffers that hold anything.
pub data Lending : Type 0 where
  swap : Lending
  backwards_in : Which → List Float → List ℕ → Lending
  restart_in : Which → ℕ → List Float → List ℕ → Lending

abbrev pub lend : Lending → TwoStrings → TwoStrings
lend swap t = change trade t
lend (backwards_in w out numbers) t = change_one w (back_through out numbers) t
lend (restart_in w k out numbers) t = change_one w (restart_through k out numbers) t

-- after all of a list, in sequence
unfoldable pub lendings : List Lending → TwoStrings → TwoStrings
lendings [] t = t
lendings (l ∷ ls) t = lendings ls (lend l t)

-- ---- what is claimed

-- The first 3 * n floats of what a call left are the n vertices that it answered, and the first n numbers theirs: so the caller holds the string that demand
-- 3 speaks of.
abbrev pub ReadBack : Type 0
ReadBack = (s : Held) (a : Answer (List Vertex)) (out : List Float) (numbers : List ℕ) → after_call s a out numbers ≡ replaced s a

-- Demand 3 with such changes,
abbrev pub Demand3InBuffers : Type 0
Demand3InBuffers =
    (margin : Float) (t : TwoStrings) → Accepted t.first → Accepted t.second → (ls : List Lending) → SameCrossings margin t (lendings ls t)

-- and so two displays that were handed the same strings, each with its own changes through its own buffers, count the same at one margin.
abbrev pub DisplaysAgree : Type 0
DisplaysAgree =
    (margin : Float) (t : TwoStrings) → Accepted t.first → Accepted t.second → (ls ms : List Lending)
    → counts_of_two margin (lendings ls t) ≡ counts_of_two margin (lendings ms t)
