use Rattle.std.proofs.Common.{⊎_elim}
use Rattle.std.proofs.lemmas.Bool.{cases_lt}
use Rattle.market.specs.Counting.{count_of}
use Rattle.market.specs.Problems.{quota_of}
use Rattle.market.specs.Stability.{IsStable}
use Rattle.stability_audit.specs.Verdicts.{IsFirstBlocking, IsFirstNotAcceptable}
use Rattle.stability_audit.specs.declared.verdict.Verdict.TheVariants.{Stable, OverQuota, NotAcceptable, Blocking}
use Rattle.stability_audit.proofs.FirstSaid.{first-verdict}
use Rattle.stability_audit.proofs.Stable.{verdict-stable}
use Rattle.stability_audit.proofs.auditing.audit.Goals as goal

pub returns-in-Some : goal.returns-in-Some
returns-in-Some g c =
    let first = c.in-Some.ensures in
    record {
      verdict = first;
      first = first-verdict c.args.market.now c.args.placement.now c.requires.programmes
          c.requires.candidates (OverQuota c.in-Some.programme) first;
      stable = verdict-stable c.args.market.now c.args.placement.now
          (OverQuota c.in-Some.programme) first;
    }

pub returns-in-Some-first_not_acceptable : goal.returns-in-Some-first_not_acceptable
returns-in-Some-first_not_acceptable g c =
    let first = c.in-Some-first_not_acceptable.ensures in
    let verdict : IsFirstNotAcceptable c.args.market.now c.args.placement.now
    c.in-Some-first_not_acceptable.candidate = record {
      quotas = c.in_default.ensures;
      unacceptable = first.unacceptable;
      first = first.first;
    } in
    record {
      verdict = verdict;
      first = first-verdict c.args.market.now c.args.placement.now c.requires.programmes
          c.requires.candidates (NotAcceptable c.in-Some-first_not_acceptable.candidate) verdict;
      stable = verdict-stable c.args.market.now c.args.placement.now
          (NotAcceptable c.in-Some-first_not_acceptable.candidate) verdict;
    }

pub returns-in_default-first_to_block : goal.returns-in_default-first_to_block
returns-in_default-first_to_block g c =
    let m = c.args.market.now in
    let held = c.args.placement.now in
    let verdict : IsStable m held = record {
      placement = record {
        candidates = c.requires.candidates;
        acceptable = λ i p holds. c.in_default-first_not_acceptable.ensures i p holds;
        quotas = λ p. ⊎_elim
            (λ over. absurd (c.in_default.ensures p over))
            (λ within. within)
            (cases_lt (quota_of m p) (count_of p held));
      };
      unblocked = λ i p b. c.in_default-first_to_block.ensures i (p, b);
    } in
    record {
      verdict = verdict;
      first = first-verdict m held c.requires.programmes c.requires.candidates Stable verdict;
      stable = verdict-stable m held Stable verdict;
    }

pub returns : goal.returns
returns g c =
    let m = c.args.market.now in
    let held = c.args.placement.now in
    let i = c.in-Some-first_to_block.candidate in
    let p = c.in-Some-blocking_entry.programme in
    let entry = c.in-Some-blocking_entry.ensures in
    let first = c.in-Some-first_to_block.ensures in
    let verdict : IsFirstBlocking m held i p = record {
      quotas = c.in_default.ensures;
      acceptable = c.in_default-first_not_acceptable.ensures;
      blocks = entry.blocks;
      first_candidate = λ j q l b. first.first j l (q, b);
      first_entry = entry.first;
    } in
    record {
      verdict = verdict;
      first = first-verdict m held c.requires.programmes c.requires.candidates (Blocking i p)
          verdict;
      stable = verdict-stable m held (Blocking i p) verdict;
    }
