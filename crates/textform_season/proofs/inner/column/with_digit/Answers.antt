-- `with_digit` puts a digit after those so far, by `Digits`. Assumes nothing.
use mathlib.Core.Path.{◌≡◌, ap}
use Prim.Native.Nat.{ℕ, ◌+◌, ◌*◌}
use borrow.Author.Rules.{rules}
use Rattle.textform_season.proofs.inner.column.Digits.{no_digit, leading_zero, too_large, one_digit_more_lem}
use Rattle.textform_season.proofs.inner.column.with_digit.Goals as goal

pub returns-then-d-ge10 : goal.returns-then-d-ge10
returns-then-d-ge10 c = (no_digit c.args.n c.args.d c.if-d-ge10.true, tt)

pub returns-then-number-eq0 : goal.returns-then-number-eq0
returns-then-number-eq0 c =
    let number : 10 * c.args.n + c.from.result ≡ 10 * c.args.n + c.args.d = ap (λ (x : ℕ). 10 * c.args.n + x) c.from.ensures in
    (leading_zero c.args.n c.args.d _ number c.if-d-ge10.false c.if-number-eq0.true, tt)

pub returns-then-number-gt-MOST_TRACKS : goal.returns-then-number-gt-MOST_TRACKS
returns-then-number-gt-MOST_TRACKS c =
    let number : 10 * c.args.n + c.from.result ≡ 10 * c.args.n + c.args.d = ap (λ (x : ℕ). 10 * c.args.n + x) c.from.ensures in
    (too_large c.args.n c.args.d _ number c.if-d-ge10.false c.if-number-eq0.false c.if-number-gt-MOST_TRACKS.true, tt)

pub returns : goal.returns
returns c =
    let number : 10 * c.args.n + c.from.result ≡ 10 * c.args.n + c.args.d = ap (λ (x : ℕ). 10 * c.args.n + x) c.from.ensures in
    (one_digit_more_lem c.args.n c.args.d _ number c.if-d-ge10.false c.if-number-eq0.false c.if-number-gt-MOST_TRACKS.false, search rules)
