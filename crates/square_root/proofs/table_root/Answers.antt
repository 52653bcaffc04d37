-- `table_root` meets its contract: its table is the one that `table_rule` reads, and the rule holds at each entry. Assumes nothing.
use mathlib.Core.List.{List, [], ◌∷◌}
use Prim.Native.Nat.{ℕ}
use Rattle.square_root.proofs.TableRule.{table_rule}
use Rattle.square_root.proofs.table_root.Goals as goal

abbrev roots : List (List ℕ)
roots =
    (64 ∷ 64 ∷ 65 ∷ 66 ∷ 67 ∷ 68 ∷ 69 ∷ 70 ∷ [])
    ∷ (71 ∷ 72 ∷ 73 ∷ 74 ∷ 75 ∷ 75 ∷ 76 ∷ 77 ∷ [])
    ∷ (78 ∷ 79 ∷ 80 ∷ 80 ∷ 81 ∷ 82 ∷ 83 ∷ 83 ∷ [])
    ∷ (84 ∷ 85 ∷ 86 ∷ 86 ∷ 87 ∷ 88 ∷ 89 ∷ 89 ∷ [])
    ∷ (90 ∷ 91 ∷ 91 ∷ 92 ∷ 93 ∷ 93 ∷ 94 ∷ 95 ∷ [])
    ∷ (96 ∷ 96 ∷ 97 ∷ 97 ∷ 98 ∷ 99 ∷ 99 ∷ 100 ∷ [])
    ∷ (101 ∷ 101 ∷ 102 ∷ 103 ∷ 103 ∷ 104 ∷ 104 ∷ 105 ∷ [])
    ∷ (106 ∷ 106 ∷ 107 ∷ 107 ∷ 108 ∷ 109 ∷ 109 ∷ 110 ∷ [])
    ∷ (110 ∷ 111 ∷ 112 ∷ 112 ∷ 113 ∷ 113 ∷ 114 ∷ 114 ∷ [])
    ∷ (115 ∷ 115 ∷ 116 ∷ 117 ∷ 117 ∷ 118 ∷ 118 ∷ 119 ∷ [])
    ∷ (119 ∷ 120 ∷ 120 ∷ 121 ∷ 121 ∷ 122 ∷ 122 ∷ 123 ∷ [])
    ∷ (123 ∷ 124 ∷ 124 ∷ 125 ∷ 125 ∷ 126 ∷ 126 ∷ 127 ∷ [])
    ∷ []

pub returns : goal.returns
returns c = rw c.from.ensures (table_rule roots tt c.args.n c.requires.0 c.requires.1)
