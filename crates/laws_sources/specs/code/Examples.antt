-- Definitions of types, the rules that they break and the tables that they are, computed by the
-- definition: for each rule types that break it, and some beside them that don't.
use Rattle.std.specs.Prelude.{◌≡◌, ℕ, List, [], ◌∷◌, ◌++◌, codes, map}
use Rattle.mc_term_data.specs.Plain.{PlainTerm, at, no_term, Var, Tailed, Items}
use Rattle.mc_source.specs.declared.rule.Broken.{Broken}
use Rattle.mc_source.specs.declared.rule.Rule.TheVariants as R
use Rattle.mc_program.specs.declared.program.TypeDef.{TypeDef}
use Rattle.mc_program.specs.Programs.{int_type, union_type, no_types, type_then}
use Rattle.mc_decl_syntax.specs.Plain.{PlainDecl, ModuleStart, Interface, Implementation, Imports, AbstractType, UnionType, SameType}
use Rattle.mc_names.specs.Plain.{id, shown}
use Rattle.mc_modules.specs.code.Examples.{file, library, one, atom, over, just, two, start}
use Rattle.mc_names.specs.Linked.{Linked}
use Rattle.mc_modules.specs.Linked.{linked}
use Rattle.mc_type_table.specs.Written.{written_type}
use Rattle.mc_type_table.specs.Expanded.{expanded}
use Rattle.mc_type_table.specs.Rules.{definitions, type_faults}
use Rattle.mc_type_table.specs.Table.{table}
use Rattle.mc_type_table.specs.Visibility.{definitions_seen}

-- the names of a module of these items, and of two modules
abbrev pub names : List PlainDecl → Linked
names is = linked (file 0 (start ∷ Interface ∷ is) ∷ library)

abbrev pub names_of_two : List PlainDecl → List PlainDecl → Linked
names_of_two is js =
    linked
    (file 0 (start ∷ Interface ∷ is) ∷ file 1 (ModuleStart (codes "b" ∷ []) ∷ Interface ∷ js)
    ∷ library)

abbrev pub faults : List PlainDecl → List Broken
faults is = type_faults (names is)

abbrev pub t : PlainTerm
t = atom (codes "t")

abbrev pub u : PlainTerm
u = atom (codes "u")

-- the type variable `A`, and the types `t(A)` and `u(A)`
abbrev pub a : PlainTerm
a = at (Var (codes "A")) 1

abbrev pub t_of : PlainTerm → PlainTerm
t_of x = over (codes "t") (just x)

abbrev pub u_of : PlainTerm → PlainTerm
u_of x = over (codes "u") (just x)

-- a constructor of one argument
abbrev pub c_of : PlainTerm → PlainTerm
c_of x = over (codes "c") (just x)

abbrev pub its_own : List ℕ → ℕ → List ℕ
its_own x n = codes "type " ++ (shown (id x n) ++ codes " is its own equivalent")

abbrev pub not_regular : List ℕ → ℕ → List ℕ
not_regular x n = codes "type " ++ (shown (id x n) ++ codes " is not regular")

abbrev pub no_head : List ℕ → List ℕ
no_head x = codes "type variable " ++ (x ++ codes " is not in the head")

-- a variable in a union's body alone; in that of an equivalence; a `_`; the argument of a field with
-- a name; a parameter
abbrev pub Variables : Type 0
Variables =
    (faults (UnionType t (just (c_of a)) ∷ []) ≡ one R.T3 0 3 (no_head (codes "A")))
    × (faults (UnionType (t_of a) (just (c_of a)) ∷ SameType u (t_of a) ∷ [])
    ≡ one R.T3 0 4 (no_head (codes "A")))
    × (faults
    (UnionType (t_of (at (Var (codes "_")) 1)) (just (c_of (at (Var (codes "_")) 1))) ∷ [])
    ≡ one R.T3 0 3 (no_head (codes "_")))
    × (faults (UnionType t (just (c_of (over (codes "::") (two (atom (codes "f")) a)))) ∷ [])
    ≡ one R.T3 0 3 (no_head (codes "A")))
    × (faults (UnionType (t_of a) (just (c_of a)) ∷ []) ≡ [])

-- equivalences that are each other; one that is its own argument; one that stands for such a one and
-- isn't reached by it; a circle over a union; a circle through two modules that hide their
-- definitions; one that breaks the rule on variables too
abbrev pub Circles : Type 0
Circles =
    (faults (SameType t u ∷ SameType u t ∷ [])
    ≡ one R.T4 0 3 (its_own (codes "t") 0)
    ++ one R.T4 0 4 (its_own (codes "u") 0))
    × (faults (UnionType (u_of a) (just (c_of a)) ∷ SameType t (u_of t) ∷ [])
    ≡ one R.T4 0 4 (its_own (codes "t") 0))
    × (faults (SameType t t ∷ SameType u t ∷ [])
    ≡ one R.T4 0 3 (its_own (codes "t") 0))
    × (faults (SameType t u ∷ UnionType u (just (c_of t)) ∷ []) ≡ [])
    × (type_faults
    (names_of_two
    (AbstractType t ∷ Implementation ∷ Imports ((codes "b" ∷ []) ∷ []) ∷ SameType t u ∷ [])
    (AbstractType u ∷ Implementation ∷ Imports ((codes "a" ∷ []) ∷ []) ∷ SameType u t ∷ []))
    ≡ one R.T4 0 6 (its_own (codes "t") 0)
    ++ one R.T4 1 6 (its_own (codes "u") 0))
    × (faults (SameType (t_of a) (over (codes "t") (just (at (Var (codes "B")) 1))) ∷ [])
    ≡ one R.T3 0 3 (no_head (codes "B")))

-- A type that grows at each level; one that grows on the way through another, where the type is told
-- whose body has the growing argument; through an equivalence. A list; arguments without variables; a
-- growing argument of a type outside the group.
abbrev pub Regular : Type 0
Regular =
    (faults (UnionType (t_of a) (just (c_of (t_of (t_of a)))) ∷ [])
    ≡ one R.T5 0 3 (not_regular (codes "t") 1))
    × (faults
    (UnionType (t_of a) (just (c_of (u_of a)))
    ∷ UnionType (u_of a) (just (c_of (t_of (u_of a)))) ∷ [])
    ≡ one R.T5 0 4 (not_regular (codes "u") 1))
    × (faults
    (UnionType (t_of a) (just (c_of (u_of a))) ∷ SameType (u_of a) (t_of (t_of a)) ∷ [])
    ≡ one R.T5 0 3 (not_regular (codes "t") 1))
    × (faults
    (UnionType (t_of a)
    (two (at (Items no_term) 1) (at (Tailed (just a) (t_of a)) 1))
    ∷ []) ≡ [])
    × (faults (UnionType (t_of a) (just (c_of (t_of (atom (codes "int"))))) ∷ []) ≡ [])
    × (faults
    (UnionType (t_of a) (just (c_of (u_of (u_of a)))) ∷ UnionType (u_of a) (just (c_of a)) ∷ [])
    ≡ [])

-- the constructors of two unions, and none of an equivalence, whose expansion is told beside them
abbrev pub Tables : Type 0
Tables =
    (map (λ (d : TypeDef). d.symbols)
    (table
    (names
    (UnionType t (two (atom (codes "c")) (atom (codes "d"))) ∷ SameType (u_of a) t
    ∷ UnionType u (just (atom (codes "e"))) ∷ [])))
    ≡ (0 ∷ 1 ∷ []) ∷ [] ∷ (2 ∷ []) ∷ [])
    × (let l = names (UnionType (t_of a) (just (c_of a)) ∷ SameType (u_of a) (t_of (t_of a)) ∷ []) in
    expanded l (definitions l) (written_type l 0 [] (u_of (atom (codes "int"))))
    ≡ union_type 0 (type_then (union_type 0 (type_then int_type no_types)) no_types))

-- An equivalence whose module declares it alone in its interface: that module sees what it stands
-- for, another has a type of its own there, also behind an equivalence that both see.
abbrev pub Hidden : Type 0
Hidden =
    let l =
    names_of_two (AbstractType t ∷ Implementation ∷ SameType t (atom (codes "int")) ∷ [])
    (Imports ((codes "a" ∷ []) ∷ []) ∷ SameType u t ∷ []) in
    (expanded l (definitions_seen l 0) (union_type 1 no_types) ≡ int_type)
    × (expanded l (definitions_seen l 1) (union_type 1 no_types) ≡ union_type 0 no_types)
