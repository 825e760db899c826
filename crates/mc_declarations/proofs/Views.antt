-- What a term is, and the type that it declares, by its node.
use Rattle.std.proofs.Common.{◌≡◌, ℕ, ℤ, suc, ◌+◌, arith, List, [], ◌∷◌, map, length, Some, None, Box, refl, ap, ap₂, sym, ◌∙◌}
use Rattle.std.specs.declared.alloc.Global.{Global}
use Rattle.mc_term_data.specs.Plain.{PlainTerm, PlainNode, PlainTerms, no_term, more_terms, at, Var, App, Int, Str, Items, Tailed, Conj, Disj, plain_term, plain_node, node_step, term_step, term_list}
use Rattle.mc_term_data.specs.Names.{count}
use Rattle.mc_term_data.specs.declared.term.Term.{Term}
use Rattle.mc_term_data.specs.declared.term.Node.TheVariants as N
use Rattle.mc_term_data.specs.declared.term.Node.TheVariants.{rolls-Var, rolls-Int, rolls-Str, rolls-App, rolls-List, rolls-Conj, rolls-Disj}
use Rattle.mc_term_data.specs.declared.term.Node.TheOpen as O
use Rattle.mc_term_data.specs.declared.term.Node.TheFolds.{fold-roll-Node, fold-roll-Term}
use Rattle.mc_program.specs.Programs.{TypeTerm, variable_type, union_type, no_types}
use Rattle.mc_program.specs.PlainPrograms.{plain_type, plain_type_step, type_terms}
use Rattle.mc_program.specs.declared.ty.Ty.{Ty}
use Rattle.mc_program.specs.declared.ty.Ty.TheVariants as T
use Rattle.mc_program.specs.declared.ty.Ty.TheVariants.{rolls-Var as rolls-type_var}
use Rattle.mc_program.specs.declared.ty.Ty.TheOpen as TO
use Rattle.mc_program.specs.declared.ty.Ty.TheFolds.{fold-roll-Ty}
use Rattle.mc_accepted.specs.ProperTypes.{count_types}
use Rattle.mc_names.specs.Linked.{Linked, plain_names}
use Rattle.mc_type_table.specs.Written.{named_type}
use Rattle.mc_clauses.specs.Variables.{Numbers, Met, variable_of}
use Rattle.mc_declarations.specs.Declarations.{declared_type, declared_types}
use Rattle.mc_clauses.specs.code.Meanings.{Knows}
use Rattle.mc_clauses.specs.declared.terms.Module.{Module}
use Rattle.mc_clauses.specs.declared.variables.Variables.{Variables}
use Rattle.mc_declarations.specs.code.Walking.{Walked, type_walk, types_walk}

opened : (t : Term) → plain_term t ≡ at (plain_node t.node) t.line
opened t =
    fold-roll-Term PlainNode PlainTerm node_step term_step (record { node = t.node; line = t.line })

pub node_var : (w : List ℕ) → plain_node (N.Var w) ≡ Var w
node_var w =
    ap plain_node (sym (rolls-Var w))
    ∙ fold-roll-Node PlainNode PlainTerm node_step term_step (O.Var w)

pub node_int : (n : ℤ) → plain_node (N.Int n) ≡ Int n
node_int n =
    ap plain_node (sym (rolls-Int n))
    ∙ fold-roll-Node PlainNode PlainTerm node_step term_step (O.Int n)

pub node_str : (s : List ℕ) → plain_node (N.Str s) ≡ Str s
node_str s =
    ap plain_node (sym (rolls-Str s))
    ∙ fold-roll-Node PlainNode PlainTerm node_step term_step (O.Str s)

pub node_app :
    (w : List (List ℕ)) (ts : List Term) → plain_node (N.App w ts) ≡ App w (term_list (map plain_term ts))
node_app w ts =
    ap plain_node (sym (rolls-App w ts))
    ∙ fold-roll-Node PlainNode PlainTerm node_step term_step (O.App w ts)

pub node_items : (ts : List Term) → plain_node (N.List ts None) ≡ Items (term_list (map plain_term ts))
node_items ts =
    ap plain_node (sym (rolls-List ts None))
    ∙ fold-roll-Node PlainNode PlainTerm node_step term_step (O.List ts None)

pub node_tailed :
    (ts : List Term) (b : Box Term Global)
    → plain_node (N.List ts (Some b)) ≡ Tailed (term_list (map plain_term ts)) (plain_term b.value)
node_tailed ts b =
    ap plain_node (sym (rolls-List ts (Some b)))
    ∙ fold-roll-Node PlainNode PlainTerm node_step term_step (O.List ts (Some b))

pub node_conj : (ts : List Term) → plain_node (N.Conj ts) ≡ Conj (term_list (map plain_term ts))
node_conj ts =
    ap plain_node (sym (rolls-Conj ts))
    ∙ fold-roll-Node PlainNode PlainTerm node_step term_step (O.Conj ts)

pub node_disj : (ts : List Term) → plain_node (N.Disj ts) ≡ Disj (term_list (map plain_term ts))
node_disj ts =
    ap plain_node (sym (rolls-Disj ts))
    ∙ fold-roll-Node PlainNode PlainTerm node_step term_step (O.Disj ts)

plain_variable : (v : ℕ) → plain_type (T.Var v) ≡ variable_type v
plain_variable v =
    ap plain_type (sym (rolls-type_var v)) ∙ fold-roll-Ty TypeTerm plain_type_step (TO.Var v)

-- a variable is the one that its name means
pub var_walked :
    (here : Module) (t : Term) (w x : List ℕ) (n : ℕ) (v after : Variables)
    → t.node ≡ N.Var w → x ≡ w
    → ((q : Numbers) (m : Met)
    → Knows q m v → (n ≡ (variable_of q x m).0) × Knows q (variable_of q x m).1 after)
    → Walked plain_type (type_walk here (plain_term t)) v after (T.Var n)
var_walked here t w x n v after is same tells m k =
    let r = tells [] m k in
    let term : plain_term t ≡ at (Var x) t.line =
    opened t ∙ ap (λ y. at y t.line) (ap plain_node is ∙ node_var w ∙ ap Var (sym same))
    in
    rw term (record { is = plain_variable n ∙ ap variable_type r.0; knows = r.1 })

one_more : (n : ℕ) → suc n ≡ 1 + n
one_more n = omega arith

count_declared :
    (l : Linked) (own : ℕ) (ts : PlainTerms) (m : Met)
    → count_types (declared_types l own ts m).0 ≡ count ts
count_declared l own no_term m = refl
count_declared l own (more_terms t ts) m =
    ap suc (count_declared l own ts (declared_type l own t m).1) ∙ one_more (count ts)

count_made : (ts : List Ty) → length ts ≡ count_types (type_terms (map plain_type ts))
count_made [] = refl
count_made (t ∷ ts) = ap suc (count_made ts)

-- a name over arguments
pub app_walked :
    (here : Module) (t : Term) (w : List (List ℕ)) (ts args : List Term) (types : List Ty)
    (made : Ty) (v after : Variables)
    → t.node ≡ N.App w ts → args ≡ ts
    → Walked (λ row. type_terms (map plain_type row)) (types_walk here (map plain_term args)) v after
    types
    → plain_type made
    ≡ named_type (plain_names here.names.now) here.own w (length types)
    (type_terms (map plain_type types))
    → Walked plain_type (type_walk here (plain_term t)) v after made
app_walked here t w ts args types made v after is same walked named m k =
    let l = plain_names here.names.now in
    let own = here.own in
    let r = walked m k in
    let terms = term_list (map plain_term args) in
    let term : plain_term t ≡ at (App w terms) t.line =
    opened t
    ∙ ap (λ y. at y t.line)
    (ap plain_node is ∙ node_app w ts ∙ ap (λ us. App w (term_list (map plain_term us))) (sym same))
    in
    let counted : length types ≡ count terms =
    count_made types ∙ ap count_types r.is ∙ count_declared l own terms m
    in
    rw term
    (record {
      is = named ∙ ap₂ (λ n us. named_type l own w n us) counted r.is;
      knows = r.knows;
    })

-- what is no type
pub none_walked :
    (here : Module) (t : Term) (n : PlainNode) (made : Ty) (v : Variables)
    → plain_node t.node ≡ n
    → ((line : ℕ) (m : Met)
    → declared_type (plain_names here.names.now) here.own (at n line) m
    ≡ (union_type (length (plain_names here.names.now).types) no_types, m))
    → plain_type made ≡ union_type (length (plain_names here.names.now).types) no_types
    → Walked plain_type (type_walk here (plain_term t)) v v made
none_walked here t n made v is none same m k =
    let walk : type_walk here (plain_term t) m
    ≡ (union_type (length (plain_names here.names.now).types) no_types, m) =
    ap (λ u. type_walk here u m) (opened t ∙ ap (λ y. at y t.line) is) ∙ none t.line m
    in
    rw walk (record { is = same; knows = k })
