use Rattle.std.proofs.Common.{◌≡◌, ◌++◌, ◌∷◌, [], List, ℕ, None, nat_eq, length, ap, sym, subst, ◌∙◌, arith}
use Rattle.std.specs.Map.{lookup}
use Rattle.std.specs.Str.{bytes_eq}
use Rattle.indexmap.proofs.CallerLemmas.{insert_entry-new}
use Rattle.indexmap.specs.IndexSet.{insert_key}
use Rattle.programme_table.proofs.FirstAppearances.{place-insert_key}
use Rattle.programme_table.proofs.Growing.{IsTable-with, clash-new}
use Rattle.programme_table.specs.Growth.{clash, with_programme}
use Rattle.programme_table.specs.Table.{IsTable, Programmes, kind_named}
use Rattle.programme_table.specs.declared.row.ProgrammeRow.{ProgrammeRow}
use Rattle.programme_table.proofs.table.ProgrammeTable.add.Goals as goal

-- a table of its parts
abbrev parts : List ProgrammeRow → List (ℕ × ℕ) → List (List ℕ) → Programmes
parts rows codes names = record { rows = rows; codes = codes; names = names }

-- what the table was, and what it has become
abbrev before : goal.After-unwrap-2 → Programmes
before c = parts c.self.inside.rows.items c.self.inside.codes.entries c.self.inside.names.keys

abbrev after : goal.After-unwrap-2 → Programmes
after c = parts c.push.new.self.items c.insert.new.self.entries c.insert_full.new.self.keys

free : (c : goal.After-unwrap-2)
    → clash (before c) c.args.fields.now ≡ None
free c = ap (λ table. clash table c.args.fields.now) c.self.view_is ∙ c.requires.fits

added : (c : goal.After-unwrap-2)
    → after c ≡ with_programme (before c) c.args.fields.now
added c =
    let t = before c in
    let name = c.args.fields.now.name in
    let names : c.insert_full.new.self.keys ≡ insert_key bytes_eq t.names name =
    (rw c.unwrap-kind.ensures at c.insert_full.ensures.keys)
    ∙ ap (λ (keys : List (List ℕ)). insert_key bytes_eq keys name) c.reserve.ensures.keys in
    let kind : c.unwrap-kind.result.0 ≡ kind_named (insert_key bytes_eq t.names name) name =
    (rw c.unwrap-kind.ensures at c.insert_full.ensures.index)
    ∙ ap (λ (keys : List (List ℕ)). kind_named keys name) c.reserve.ensures.keys
    ∙ sym (place-insert_key t.names name) in
    let code : c.from.result ≡ c.args.fields.now.code = c.from.ensures ∙ c.get.ensures.value in
    let absent : lookup (nat_eq c.from.result) c.reserve-2.new.self.entries ≡ None =
    ap (λ (entries : List (ℕ × ℕ)). lookup (nat_eq c.from.result) entries)
    c.reserve-2.ensures.entries
    ∙ ap (λ (key : ℕ). lookup (nat_eq key) t.codes) code
    ∙ clash-new t c.args.fields.now (free c) in
    let codes : c.insert.new.self.entries
    ≡ t.codes ++ (c.args.fields.now.code, c.args.fields.now.line) ∷ [] =
    (rw c.unwrap.ensures at c.insert.ensures.entries)
    ∙ insert_entry-new nat_eq c.reserve-2.new.self c.from.result c.args.fields.now.line absent
    ∙ ap (λ (entries : List (ℕ × ℕ)). entries ++ (c.from.result, c.args.fields.now.line) ∷ [])
    c.reserve-2.ensures.entries
    ∙ ap (λ (key : ℕ). t.codes ++ (key, c.args.fields.now.line) ∷ []) code in
    let with_kind : ℕ → ProgrammeRow =
    λ kind. record {
      code = c.args.fields.now.code;
      kind = kind;
      quota = c.args.fields.now.quota;
      bar = c.args.fields.now.bar;
    } in
    let rows : c.push.new.self.items
    ≡ t.rows ++ with_kind (kind_named (insert_key bytes_eq t.names name) name) ∷ [] =
    (rw c.unwrap-2.ensures at c.push.ensures.items)
    ∙ ap (λ (rows : List ProgrammeRow). rows ++ with_kind c.unwrap-kind.result.0 ∷ [])
    c.reserve-3.ensures.items
    ∙ ap (λ (kind : ℕ). t.rows ++ with_kind kind ∷ []) kind in
    λ j. parts (rows j) (codes j) (names j)

pub invariant_of-self-2 : goal.invariant_of-self-2
invariant_of-self-2 c =
    subst IsTable (sym (added c))
    (IsTable-with (before c) c.args.fields.now c.self.invariant
    (omega (arith, ap (λ (table : Programmes). length table.rows) c.self.view_is, c.requires.rows))
    (free c))

pub returns : goal.returns
returns c = added c ∙ ap (λ table. with_programme table c.args.fields.now) c.self.view_is
