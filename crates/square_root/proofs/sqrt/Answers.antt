-- `sqrt` meets its contract: each need is a fact of `Edges`, or what `root_pattern` promises. Assumes nothing.
use mathlib.Core.Path.{◌∙◌, ap, sym, subst}
use lib.Dec.{T}
use lib.Ieee.{binary64, fits}
use lib.Ieee.Bits.{of_bits-to_bits}
use Rattle.square_root.specs.Sqrt.{sqrt_of}
use Rattle.square_root.proofs.Edges.{is_no_nan, bits_pos, no_nan_bits, infinite, negative, neither}
use Rattle.square_root.proofs.sqrt.Goals as goal

pub float_to_bits-b : goal.float_to_bits-b
float_to_bits-b c = is_no_nan c.args.x c.if-x.true

pub root_pattern-requires : goal.root_pattern-requires
root_pattern-requires c =
    let held : T (fits binary64 c.args.x) = subst T (sym c.well_formed.0.1) tt in
    (bits_pos c.args.x held c.if-x.true, c.if-b-lt-INFINITY.true)

pub float_from_bits-result : goal.float_from_bits-result
float_from_bits-result c = no_nan_bits c.root_pattern.result c.root_pattern.ensures.0

pub returns-then-b-lt-INFINITY : goal.returns-then-b-lt-INFINITY
returns-then-b-lt-INFINITY c =
    let held : T (fits binary64 c.args.x) = subst T (sym c.well_formed.0.1) tt in
    c.root_pattern.ensures.1 ∙ ap sqrt_of (of_bits-to_bits binary64 c.args.x held)

pub returns-then-x : goal.returns-then-x
returns-then-x c =
    let held : T (fits binary64 c.args.x) = subst T (sym c.well_formed.0.1) tt in
    infinite c.args.x held c.if-x.true c.if-b-lt-INFINITY.false

pub returns-then-x-2 : goal.returns-then-x-2
returns-then-x-2 c = negative c.args.x c.if-x-2.true

pub returns : goal.returns
returns c = neither c.args.x c.if-x.false c.if-x-2.false
