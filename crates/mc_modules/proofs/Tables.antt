-- The sets of a file's items.
use Rattle.std.proofs.Common.{◌≡◌, cond, List, [], ◌∷◌, ◌++◌, refl, sym, ◌∙◌}
use Rattle.std.specs.Set.{is_member}
use Rattle.mc_names.specs.declared.definition.Kind.{Kind}
use Rattle.mc_names.specs.declared.definition.Kind.TheVariants as K
use Rattle.mc_names.specs.Plain.{PlainNameArity, PlainDefinition, definition, is_definition}
use Rattle.mc_defs_uses.specs.Sets.{put, put_all}
use Rattle.mc_names.specs.Definitions.{definitions}
use Rattle.mc_defs_uses.specs.Clauses.{clause_of, mode_of}
use Rattle.mc_defs_uses.proofs.Laws.{is_member-put_all}
use Rattle.mc_modules.specs.declared.table.Table.{Table}
use Rattle.mc_modules.specs.Files.{PlainItemInFile, is_shown, definitions_of, shown_of, clauses_of, modes_of, as_list, has}
use Rattle.mc_modules.specs.Kept.{table}
use Rattle.mc_modules.specs.code.Tables.{with_item, with_items}

pub put_all-append : (ts xs ys : List PlainDefinition) → put_all ts (xs ++ ys) ≡ put_all (put_all ts xs) ys
put_all-append ts [] ys = refl
put_all-append ts (x ∷ xs) ys = put_all-append (put ts x) xs ys

all_of : Table → List PlainItemInFile → Table
all_of t ss =
    record {
      definitions = put_all t.definitions (definitions_of ss);
      shown = put_all t.shown (shown_of ss);
      clauses = put_all t.clauses (clauses_of ss);
      modes = put_all t.modes (modes_of ss);
    }

with_items-is : (t : Table) (ss : List PlainItemInFile) → with_items t ss ≡ all_of t ss
unfolding all_of
with_items-is t [] = refl
with_items-is t (s ∷ ss) =
    let a = put_all-append t.definitions (definitions s.item) (definitions_of ss) in
    let b = put_all-append t.shown (cond (is_shown s.section) (definitions s.item) []) (shown_of ss) in
    let d = put_all-append t.clauses (as_list (clause_of s.item)) (clauses_of ss) in
    let e = put_all-append t.modes (as_list (mode_of s.item)) (modes_of ss) in
    with_items-is (with_item t s) ss ∙ (λ i. record { definitions = sym a i; shown = sym b i; clauses = sym d i; modes = sym e i })

pub table-is : (t : Table) (ss : List PlainItemInFile) → t.definitions ≡ [] → t.shown ≡ [] → t.clauses ≡ [] → t.modes ≡ [] → with_items t ss ≡ table ss
unfolding all_of
table-is t ss a b d e = with_items-is t ss ∙ (λ i. record { definitions = put_all (a i) (definitions_of ss); shown = put_all (b i) (shown_of ss); clauses = put_all (d i) (clauses_of ss); modes = put_all (e i) (modes_of ss) })

-- what a set of definitions has is what the definitions have
pub has-set : (k : Kind) (x : PlainNameArity) (ts : List PlainDefinition) → has k x (put_all [] ts) ≡ has k x ts
has-set K.DefinedType x ts = let a = is_member-put_all [] ts (definition K.DefinedType x) in let b = is_member-put_all [] ts (definition K.AbstractType x) in rw (a, b) refl
has-set k x ts = is_member-put_all [] ts (definition k x)

pub is_member_set : (ts : List PlainDefinition) (t : PlainDefinition) → is_member is_definition (put_all [] ts) t ≡ is_member is_definition ts t
is_member_set ts t = is_member-put_all [] ts t
