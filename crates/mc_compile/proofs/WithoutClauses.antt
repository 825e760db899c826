-- What the phases behind that of clauses say of files without their clauses: the same as of the files
-- with them, since a clause declares no mode and writes no inst.
use Rattle.std.proofs.Common.{◌≡◌, ℕ, zero, suc, Bool, true, false, List, [], ◌∷◌, ◌++◌, map, refl, sym, ap, ◌∙◌}
use Rattle.std.specs.Prelude.{Option, None, if◌then◌else◌, slice_index_or}
use Rattle.std.specs.Option.{option_to_list}
use Rattle.std.proofs.Math.Path.{fun_ext}
use Rattle.mc_source.specs.declared.place.Place.{Place}
use Rattle.mc_source.specs.declared.rule.Broken.{Broken}
use Rattle.mc_decl_syntax.specs.Plain.{PlainDecl, Clause}
use Rattle.mc_decl_syntax.specs.Entries.{File}
use Rattle.mc_names.specs.Linked.{Defined, Linked, defining_module}
use Rattle.mc_type_phase.specs.Items.{is_clause, without_clauses}
use Rattle.mc_inst_table.specs.Rules.{InstItem, module_items, items_from, InstSays, is_sound, AreInstFaults, item_then}
use Rattle.mc_signatures.specs.WrittenModes.{PlainMode, Callable, callable, callable_of, is_that, mode_by, modes_by, modes_among, modes_of, or_default, declared_modes}

-- A clause breaks no rule of insts.
clause_is_sound :
    (l : Linked) (own : ℕ) (i : PlainDecl) (at : Place)
    → is_clause i ≡ true → InstSays l (record { own = own; item = i; at = at }) None
clause_is_sound l own (Clause t) at e = is_sound (λ free. free.1) (λ unfounded. unfounded)
clause_is_sound l own i at e = absurd (let clash : false ≡ true = e in cc)

-- the rules of insts that items break, with one more item, and with all of a file's
item_back :
    (l : Linked) (own : ℕ) (i : PlainDecl) (at : Place) (ws : File) (is js : List InstItem)
    → ((bs : List Broken) → AreInstFaults l (module_items own ws ++ is) bs → AreInstFaults l js bs)
    → (b : Bool) → is_clause i ≡ b → (bs : List Broken)
    → AreInstFaults l (module_items own (if b then ws else (i, at) ∷ ws) ++ is) bs
    → AreInstFaults l (record { own = own; item = i; at = at } ∷ js) bs
item_back l own i at ws is js more true e bs faults =
    item_then (clause_is_sound l own i at e) (more bs faults)
item_back l own i at ws is js more false e bs (item_then {bs = cs} says rest) =
    item_then says (more cs rest)

file_back :
    (l : Linked) (own : ℕ) (f : File) (is js : List InstItem)
    → ((bs : List Broken) → AreInstFaults l is bs → AreInstFaults l js bs)
    → (bs : List Broken) → AreInstFaults l (module_items own (without_clauses f) ++ is) bs
    → AreInstFaults l (module_items own f ++ js) bs
file_back l own [] is js more bs faults = more bs faults
file_back l own ((i, at) ∷ es) is js more bs faults =
    item_back l own i at (without_clauses es) is (module_items own es ++ js)
    (file_back l own es is js more) (is_clause i) refl bs faults

pub inst_faults_back :
    (l : Linked) (own : ℕ) (fs : List File) (bs : List Broken)
    → AreInstFaults l (items_from own (map without_clauses fs)) bs
    → AreInstFaults l (items_from own fs) bs
inst_faults_back l own [] bs faults = faults
inst_faults_back l own (f ∷ fs) bs faults =
    file_back l own f (items_from (suc own) (map without_clauses fs)) (items_from (suc own) fs)
    (inst_faults_back l (suc own) fs) bs faults

-- A clause declares no mode.
of_no_callable : (i : PlainDecl) → is_clause i ≡ true → callable i ≡ None
of_no_callable (Clause t) e = refl
of_no_callable i e = absurd (let clash : false ≡ true = e in cc)

one_same :
    (l : Linked) (own : ℕ) (x : Callable) (e : PlainDecl × Place) (ws es : File)
    → modes_among l own x ws ≡ modes_among l own x es → (b : Bool) → is_clause e.0 ≡ b
    → modes_among l own x (if b then ws else e ∷ ws) ≡ modes_by l own x e ++ modes_among l own x es
one_same l own x e ws es same true is =
    same
    ∙ ap
    (λ (c : Option Callable).
    (if is_that x c then option_to_list (mode_by l own e) else []) ++ modes_among l own x es)
    (sym (of_no_callable e.0 is))
one_same l own x e ws es same false is = ap (λ (ms : List PlainMode). modes_by l own x e ++ ms) same

modes_same :
    (l : Linked) (own : ℕ) (x : Callable) (f : File)
    → modes_among l own x (without_clauses f) ≡ modes_among l own x f
modes_same l own x [] = refl
modes_same l own x (e ∷ es) =
    one_same l own x e (without_clauses es) es (modes_same l own x es) (is_clause e.0) refl

file_at :
    (fs : List File) (k : ℕ)
    → slice_index_or (map without_clauses fs) k [] ≡ without_clauses (slice_index_or fs k [])
file_at [] zero = refl
file_at [] (suc k) = refl
file_at (f ∷ fs) zero = refl
file_at (f ∷ fs) (suc k) = file_at fs k

modes_of_same :
    (l : Linked) (fs : List File) (d : Defined)
    → modes_of l (map without_clauses fs) d ≡ modes_of l fs d
modes_of_same l fs d =
    let own = defining_module l d in
    ap (or_default d)
    (ap (modes_among l own (callable_of d)) (file_at fs own)
    ∙ modes_same l own (callable_of d) (slice_index_or fs own []))

pub declared_modes_same :
    (l : Linked) (fs : List File) → declared_modes l (map without_clauses fs) ≡ declared_modes l fs
declared_modes_same l fs =
    ap (λ (each : Defined → List PlainMode). map each l.preds) (fun_ext (modes_of_same l fs))
