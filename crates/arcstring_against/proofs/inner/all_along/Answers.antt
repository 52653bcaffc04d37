-- Each vertex along a string, by position. Assumes nothing.
use mathlib.Core.Path.{refl}
use mathlib.Core.Bool.{true, false}
use native.Mathlib.Omega.{arith}
use Rattle.std.proofs.Common.{rules}
use borrow.Author.Tests.{tests}
use Rattle.std.proofs.lemmas.Iterator.{YieldsList-from_range, cases_from_all}
use Rattle.arcstring_along.specs.OnString.{string_of}
use Rattle.arcstring_along.proofs.ByPosition.{all_in_range}
use Rattle.arcstring_against.proofs.Against.{VertexTold, all_by_vertex}
use Rattle.arcstring_against.proofs.inner.all_along.Goals as goal

pub returns : goal.returns
returns c =
    all_by_vertex c.args.a _ _
    (all_in_range _ _ _ _
    (cases_from_all _ _ _ (VertexTold c.args.a (string_of c.args.s) true) (VertexTold c.args.a (string_of c.args.s) false) c.all.ensures.ran
    (YieldsList-from_range 0 c.args.a.n c.args.a.n refl (omega arith)) (λ x q k. search (rules, tests)) (λ x q k. search (rules, tests))))
