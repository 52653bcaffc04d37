-- What is counted up of pairs: for the contracts of inner functions. Definitions only.
use Rattle.std.specs.Prelude.{List, ℕ, ◌+◌, length}
use Rattle.arcstring_pair.specs.declared.pair.Pair.{Pair}
use Rattle.arcstring_tally.specs.declared.counts.Counts.{Counts}
use Rattle.arcstring_tally.specs.declared.inner.tally.Tally.{Tally}
use Rattle.arcstring_tally.specs.Pairs.{total, one_clean, one_end, one_grazing, one_apart, kept_marks}

abbrev pub no_tally : Tally
no_tally = record { clean = 0; end = 0; grazing = 0; apart = 0; kept = 0 }

-- the pairs counted on from a start: those of each class, and the kept ones
unfoldable pub tally_on : Tally → List Pair → Tally
tally_on t ps =
    record {
      clean = t.clean + total one_clean ps;
      end = t.end + total one_end ps;
      grazing = t.grazing + total one_grazing ps;
      apart = t.apart + total one_apart ps;
      kept = t.kept + length (kept_marks ps);
    }

abbrev pub tally_counts : Tally → Counts
tally_counts t = record { clean = t.clean; end = t.end; grazing = t.grazing; apart = t.apart }

-- all that has been counted, for bounds
abbrev pub tally_sum : Tally → ℕ
tally_sum t = t.clean + t.end + t.grazing + t.apart + t.kept
