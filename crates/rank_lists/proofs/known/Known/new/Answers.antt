use Rattle.std.proofs.Common.{◌≡◌, ◌<◌, ◌++◌, ◌∷◌, ◌+◌, ◌∙◌, ℕ, All, IsTrue, List, [], Some, ap, arith, get_or, length, map, subst, sym, take}
use Rattle.std.proofs.lemmas.List.{map-append, take_more}
use Rattle.std.proofs.lemmas.List.Elements.{All-push}
use Rattle.std.proofs.lemmas.Option.{slice_get-get_or}
use Rattle.place_base.specs.TypeName.{is_type_name}
use Rattle.rank_lists.specs.Groups.{name_number}
use Rattle.rank_lists.proofs.known.Known.new.Goals as goal

same-some : {X : Type 0} (a b : X) → Some a ≡ Some b → a ≡ b
same-some a b e = cc

pub loop-kind-preserved : goal.loop-kind-preserved
loop-kind-preserved g c =
    let names = g.T.TypeFinder.names c.args.types.now in
    let kind = c.loop-kind.kind in
    let lt : kind < length names =
    omega (arith, c.loop-kind-test.true, c.type_count-count.ensures.length) in
    let name : c.type_name.result ≡ get_or names kind [] =
    same-some c.type_name.result (get_or names kind [])
    (sym c.type_name.ensures ∙ slice_get-get_or names kind [] lt) in
    let more : take (kind + 1) names ≡ take kind names ++ get_or names kind [] ∷ [] =
    take_more names kind [] lt in
    let number : c.name_number.result ≡ name_number (get_or names kind []) =
    c.name_number.ensures ∙ ap name_number (c.bytes.ensures.value ∙ name) in
    let is = subst (λ (text : List ℕ). IsTrue (is_type_name text)) name c.bytes.ensures.name in
    record {
      names = c.in_ok-push.ensures.items
          ∙ (λ j. c.loop-kind.invariant.names j ++ number j ∷ [])
          ∙ sym (map-append name_number (take kind names) (get_or names kind [] ∷ []))
          ∙ sym (ap (map name_number) more);
      are = subst (All (λ name. IsTrue (is_type_name name))) (sym more)
          (All-push (λ name. IsTrue (is_type_name name)) (take kind names) (get_or names kind [])
          c.loop-kind.invariant.are is);
    }
