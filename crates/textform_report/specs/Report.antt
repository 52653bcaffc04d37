-- The text of the season report: a heading, a line for each track, and a line for all. Definitions only.
use Rattle.std.specs.Prelude.{List, [], ◌∷◌, ◌++◌, ℕ, ◌+◌}
use Rattle.arcstring_tally.specs.declared.counts.Counts.{Counts}
use Rattle.arcstring_tally.specs.Pairs.{total}
use Rattle.same_crossings.specs.CountLaws.{add_counts}
use Rattle.textform.specs.Text.{blank, line_feed}
use Rattle.textform.specs.Print.{most_digits, decimal}
use Rattle.textform_count.specs.Print.{counts_room, heading, four_counts}
use Rattle.textform_report.specs.Permille.{permille}

-- room for what stands in a line after its name: four counts, permille, and the byte after each
abbrev pub rest_room : ℕ
rest_room = counts_room + most_digits + 1

-- room for a line of a track or of all
abbrev pub line_room : ℕ
line_room = most_digits + 1 + rest_room

-- `track`, `permille`, `all`
abbrev pub track_word : List ℕ
track_word = 116 ∷ 114 ∷ 97 ∷ 99 ∷ 107 ∷ []

abbrev pub permille_word : List ℕ
permille_word = 112 ∷ 101 ∷ 114 ∷ 109 ∷ 105 ∷ 108 ∷ 108 ∷ 101 ∷ []

abbrev pub all_word : List ℕ
all_word = 97 ∷ 108 ∷ 108 ∷ []

-- `track clean end grazing apart permille`
unfoldable pub report_heading : List ℕ
report_heading = track_word ++ (blank ∷ (heading ++ (blank ∷ (permille_word ++ (line_feed ∷ [])))))

-- how long it is
abbrev pub heading_length : ℕ
heading_length = 39

-- the four counts of a line, and their permille
unfoldable pub line_rest : Counts → List ℕ
line_rest c = four_counts c ++ (blank ∷ (decimal (permille c) ++ (line_feed ∷ [])))

-- a line: whose it is, and these
unfoldable pub report_line : List ℕ → Counts → List ℕ
report_line name c = name ++ (blank ∷ line_rest c)

-- the lines of tracks from number n on
unfoldable pub track_lines : ℕ → List Counts → List ℕ
track_lines n [] = []
track_lines n (c ∷ cs) = report_line (decimal n) c ++ track_lines (n + 1) cs

-- the sums over the tracks
unfoldable pub sums_of : List Counts → Counts
sums_of cs = record {
  clean = total (λ (c : Counts). c.clean) cs;
  end = total (λ (c : Counts). c.end) cs;
  grazing = total (λ (c : Counts). c.grazing) cs;
  apart = total (λ (c : Counts). c.apart) cs;
}

-- the whole text: permille of all is that of the sums
unfoldable pub report_text : List Counts → List ℕ
report_text cs = report_heading ++ (track_lines 1 cs ++ report_line all_word (sums_of cs))

-- ---- track by track, for the contracts of inner functions

-- the text up to the last track's line, and the sums
pub record Report : Type 0 where
  pub text : List ℕ
  pub sums : Counts

abbrev pub report_for : List Counts → Report
report_for cs = record { text = report_heading ++ track_lines 1 cs; sums = sums_of cs }

-- one track more, whose number is n
abbrev pub with_track : ℕ → Report → Counts → Report
with_track n r c = record { text = r.text ++ report_line (decimal n) c; sums = add_counts r.sums c }

-- with the last line
abbrev pub finished : Report → List ℕ
finished r = r.text ++ report_line all_word r.sums
