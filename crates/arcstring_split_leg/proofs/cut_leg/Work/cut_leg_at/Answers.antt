-- `cut_leg_at` leaves a leg that the point does not cut; else the point is written over its end, and put in twice behind it. Assumes nothing.
use native.Mathlib.Omega.{arith}
use Rattle.arcstring_split_leg.proofs.LegCuts.{place_uncut, place_full, place_cut}
use Rattle.arcstring_split_leg.proofs.cut_leg.Work.cut_leg_at.Goals as goal

pub returns-then-not-cuts_leg : goal.returns-then-not-cuts_leg
returns-then-not-cuts_leg c = (
  place_uncut c.args.p c.args.self.now.v _ c.args.k _ _ c.requires (omega arith) c.leg_between.ensures c.cuts_leg.ensures c.if-not-cuts_leg.true,
  omega arith,
)

pub returns-then-m-eq-MOST_LEGS : goal.returns-then-m-eq-MOST_LEGS
returns-then-m-eq-MOST_LEGS c = (
  place_full c.args.p c.args.self.now.v _ c.args.k _ _ c.requires (omega arith) c.leg_between.ensures c.cuts_leg.ensures
      c.if-not-cuts_leg.false c.if-m-eq-MOST_LEGS.true,
  omega arith,
)

pub returns : goal.returns
returns c = (
  place_cut c.args.p c.args.self.now.v c.args.self.now.count c.args.k _ _ c.requires (omega arith) c.leg_between.ensures c.cuts_leg.ensures
      _ _ _ c.if-not-cuts_leg.false (omega arith) (omega arith) c.put_vertex.auto.out c.insert_vertex.auto.work
      c.put_vertex.ensures c.insert_vertex.ensures c.insert_vertex-2.ensures,
  omega arith,
)
