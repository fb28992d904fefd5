use Rattle.std.proofs.Common.{◌≤◌, ◌∙◌, List, length, subst, ℕ}
use Rattle.place_base.specs.declared.limits.TheConstants.{MOST_ENTRIES}
use Rattle.candidate_table.specs.Growth.{IsListFound}
use Rattle.candidate_table.specs.Rows.{codes_in}
use Rattle.candidate_table.proofs.table.CandidateTableTakesAheadCandidate.keep.Goals as goal

pub returns : goal.returns
returns g c = λ version row says.
    let programmes = g.P.Finder.numbers c.args.programmes.now in
    let found = c.in_ok-find_list.field-0 in
    let codes = c.as_slice.ensures.entries ∙ says.codes in
    record {
      line = says.line;
      number = says.number;
      few = subst
          (λ (codes : List ℕ). length codes ≤ MOST_ENTRIES) says.codes c.as_slice.ensures.few;
      list = subst (λ (line : ℕ). IsListFound programmes line (codes_in row) found) says.line
          (subst (λ (codes : List ℕ). IsListFound programmes c.args.fields.line codes found) codes
          c.in_ok-find_list.ensures);
    }
