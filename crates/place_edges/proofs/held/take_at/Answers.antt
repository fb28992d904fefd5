use Rattle.std.proofs.Common.{◌≡◌, ◌-◌, min, refl, arith, ap, ◌∙◌, ℕ, List, length, length-take, length-drop}
use Rattle.std.proofs.lemmas.Option.{slice_get_read}
use Rattle.place_edges.proofs.Entries.{counts-entry, takes-entry}
use Rattle.place_edges.proofs.held.take_at.Goals as goal

pub returns : goal.returns
returns c =
    let entries = c.args.entries.now in
    let place = c.args.place.now in
    let file = c.in-Inside.file in
    let at = c.in-Inside.at in
    let from = c.min-from.result in
    let count = c.copy_front-count.result in
    let entry = c.in-Some.entry.now in
    let bytes = c.deref.result.now in
    let into = c.copy_front-count.new.into in
    let found = slice_get_read entries (length entries) file entry refl (omega (
      arith,
      c.in-Some.ensures.lookup.3.0,
    ))
    c.in-Some.ensures.lookup.1 in
    let same = c.deref.ensures.value ∙ ap (λ (e : List ℕ × List ℕ). e.1) c.entry.view_is in
    let start : from ≡ min at (length bytes) =
    omega (arith, c.min-from.ensures, c.len.ensures, c.deref.ensures.len) in
    let taken : count ≡ min (length bytes - from) (length into) =
    omega (
      arith,
      c.copy_front-count.ensures.count,
      c.copy_front-count.auto.into,
      length-take {A = ℕ},
      length-drop {A = ℕ},
    ) in
    record {
      count = counts-entry entries place file at from count (length into) entry bytes
          c.in-Inside.is found same start taken;
      bytes = takes-entry entries place file at from count entry bytes into
          c.in-Inside.is found same start taken c.copy_front-count.ensures.bytes;
    }
