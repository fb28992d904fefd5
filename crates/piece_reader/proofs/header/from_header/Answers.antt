use Rattle.std.proofs.Common.{◌≡◌, ◌+◌, ◌-◌, ◌∙◌, ◌∷◌, [], All, List, ap, arith, drop, length, length-drop, subst, suc, sym, take, take_all}
use Rattle.std.proofs.lemmas.Grind.{common_steps}
use Rattle.std.proofs.lemmas.List.{drop-drop}
use Rattle.record_files.specs.declared.rows.RowPart.{RowPart}
use Rattle.piece_reader.specs.Parts.{IsPartOf}
use Rattle.piece_reader.proofs.header.from_header.Goals as goal

-- all behind the first
behind-first : (parts : List RowPart) → take (length parts - 1) (drop 1 parts) ≡ drop 1 parts
behind-first parts =
    take_all (length parts - 1) (drop 1 parts) (omega (arith, length-drop 1 parts))

all-behind : (P : RowPart → Type 0) (parts : List RowPart) → All P parts → All P (drop 1 parts)
all-behind P [] h = h
all-behind P (part ∷ parts) h = λ k d lt. h (suc k) d (omega arith)

pub parts-preserved : goal.parts-preserved
parts-preserved c = record {
  rows = grind (arith, common_steps);
  each = subst (All (IsPartOf c.args.bytes.now)) (sym (behind-first c.parts.rest.now))
      (all-behind (IsPartOf c.args.bytes.now) c.parts.rest.now c.parts.invariant.each);
  tail = (
    c.parts.invariant.tail.0 + 1,
    behind-first c.parts.rest.now ∙ ap (drop 1) c.parts.invariant.tail.1
        ∙ drop-drop 1 c.parts.invariant.tail.0 c.args.parts.now,
  );
}
