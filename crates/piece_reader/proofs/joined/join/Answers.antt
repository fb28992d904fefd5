use Rattle.std.proofs.Common.{◌≡◌, ◌∙◌, ◌∷◌, [], arith, subst, sym}
use Rattle.std.specs.Vec.Iter.{into_iter_items}
use Rattle.std.proofs.lemmas.List.{nil_from_length}
use Rattle.record_files.specs.Form.{version_in}
use Rattle.record_files.specs.Rows.{data_rows}
use Rattle.piece_reader.proofs.Joining.{JoinsParts, JoinsParts-begin, JoinsParts-below, JoinsParts-ends, JoinsParts-next, JoinsParts-stops, first-means}
use Rattle.piece_reader.proofs.joined.join.Goals as goal
use Rattle.piece_reader.proofs.joined.join.Goals.{In-Some}

-- the parts that are left, the next of them in front
joins : (g : _) (c : In-Some g)
    → let version = version_in (g.T.RowTable.rules c.args.beside.now).form c.args.bytes.now in
    JoinsParts (g.T.RowTable.rules c.args.beside.now) version
    (g.T.TakesAhead.keeps c.args.beside.now version)
    (g.T.RowTable.has_rows c.args.beside.now version) (data_rows c.args.bytes.now) c.parts.table
    (c.in-Some.part ∷ into_iter_items c.next.new.self)
joins g c = subst (JoinsParts _ _ _ _ _ c.parts.table) c.in-Some.ensures.items c.parts.invariant

pub take_part-requires : goal.take_part-requires
take_part-requires g c =
    let joins = joins g (goal.at.take_part-requires g c).In-Some in
    let more = JoinsParts-below _ _ _ _ _ _ c.parts.table _ _ _ c.requires.parts.few joins in (
      version_in (g.T.RowTable.rules c.args.beside.now).form c.args.bytes.now,
      joins.done,
      more.0,
      joins.has_rows,
      more.1,
      more.2,
    )

pub returns-in-Some-2 : goal.returns-in-Some-2
returns-in-Some-2 g c =
    first-means (g.T.RowTable.rules c.args.beside.now) c.args.bytes.now
    (λ k lt. c.requires.parts.clean k (0, []) lt) c.requires.parts.few c.requires.parts.header
    ∙ JoinsParts-stops _ _ _ _ _ _ c.take_part.new.table _ _ c.in-Some-2.fault
    (joins g (goal.at.returns-in-Some-2 g c).In-Some)
    (rw c.in-Some-2.is at (c.in_ok-fault.ensures {u = tt}
    (version_in (g.T.RowTable.rules c.args.beside.now).form c.args.bytes.now)))

pub parts-init : goal.parts-init
parts-init g c =
    subst (JoinsParts _ _ _ _ (data_rows c.args.bytes.now) c.args.table)
    (sym c.into_iter-left.ensures.rest)
    (JoinsParts-begin _ _ _ _ (data_rows c.args.bytes.now) c.requires.parts.lists c.args.table
    c.args.parts.items c.requires.parts.whole (c.requires.empty _) c.requires.parts.each)

pub parts-preserved : goal.parts-preserved
parts-preserved g c =
    JoinsParts-next _ _ _ _ _ _ c.take_part.new.table _ _
    (joins g (goal.at.parts-preserved g c).In-Some)
    (rw c.in_default-2.is at (c.in_ok-fault.ensures {u = tt}
    (version_in (g.T.RowTable.rules c.args.beside.now).form c.args.bytes.now)))

pub returns : goal.returns
returns g c =
    let none : into_iter_items c.parts.left ≡ [] =
    nil_from_length (into_iter_items c.parts.left) (omega (arith, c.in_default.ensures.cases.0)) in
    let ends = JoinsParts-ends _ _ _ _ _ _ (subst (JoinsParts _ _ _ _ _ c.parts.table) none
    c.parts.invariant) in (
      first-means (g.T.RowTable.rules c.args.beside.now) c.args.bytes.now
          (λ k lt. c.requires.parts.clean k (0, []) lt) c.requires.parts.few
          c.requires.parts.header ∙ ends.0,
      ends.1,
    )
