-- Insts and modes that are written name builtin nodes alone.
use Rattle.std.proofs.Common.{◌≡◌, ℕ, zero, suc, ◌+◌, ◌<◌, Bool, true, false, ◌&&◌, cond, nat_eq, List, [], ◌∷◌, ◌++◌, map, replicate, Option, Some, None, subst, arith}
use Rattle.std.specs.Prelude.{bytes_eq, codes, slice_get, slice_index_or}
use Rattle.std.specs.Option.{option_map, option_to_list, is_some}
use Rattle.mc_source.specs.declared.place.Place.{Place}
use Rattle.mc_term_data.specs.Names.{count, Row, found}
use Rattle.mc_term_data.specs.Plain.{PlainTerm, PlainTerms, at, no_term, more_terms, Var, Int, Str, App, Items, Tailed, Conj, Disj}
use Rattle.mc_term_data.specs.Shapes.{is_the_word, operands}
use Rattle.mc_decl_syntax.specs.Plain.{Path, PlainDecl, ModuleStart, ModuleEnd, Interface, Implementation, Imports, UseOnly, AbstractType, UnionType, SameType, SameInst, BoundInst, ModeDef, Pred, Func, Mode, Pragma, Clause}
use Rattle.mc_defs_uses.specs.Clauses.{is_mode_too}
use Rattle.mc_decl_syntax.specs.Entries.{File}
use Rattle.mc_names.specs.Linked.{Defined, Linked, defining_module}
use Rattle.mc_accepted.specs.InstRules.{InstTerm, inst_node, InstTerms, no_insts, inst_then}
use Rattle.mc_inst_table.specs.Written.{builtin_insts, builtin, append_insts, builtin_or_defined, written_inst, inst_over, written_insts, listed_insts, all_listed, ModeTerm, from_to, defined_mode, builtin_modes, over_one, mode_or, user_mode, mode_over, named_mode, written_mode}
use Rattle.mc_inst_table.specs.Rules.{inst_body_by, body_or_none, inst_body_of, inst_bodies, mode_body_by}
use Rattle.mc_signatures.specs.WrittenModes.{PlainMode, moded, modes_of_arguments, modes_of_signature, written_modes, modes_of_head, moded_function, function_modes, further_modes, declared_by, determinism_of, mode_by, Callable, callable, is_that, modes_by, modes_among, callable_of, is_function, default_mode, or_default, modes_of, declared_modes}
use Rattle.mc_signatures.specs.MeantModes.{mode_body_of, mode_bodies}
use Rattle.laws_one_answer.specs.MeantNodes.{NamesBuiltin, EachNamesBuiltin}

-- ---- tables
abbrev AllRows : {A : Type 0} → (A → Type 0) → List (Row A) → Type 0
AllRows Q [] = Unit {0}
AllRows Q (r ∷ rs) = Q r.entry × AllRows Q rs

abbrev Told : {A : Type 0} → (A → Type 0) → Option A → Type 0
Told Q None = Unit {0}
Told Q (Some x) = Q x

found-told : {A : Type 0} (Q : A → Type 0) (rows : List (Row A)) (w : List ℕ) (n : ℕ) → AllRows Q rows → Told Q (found rows w n)
found-told Q [] w n h = tt
found-told {A = A} Q (r ∷ rs) w n h = choice (nat_eq n r.arity && bytes_eq r.name w) (found-told Q rs w n h.1)
  where
    choice : (t : Bool) → Told Q (found rs w n) → Told Q (cond t (Some r.entry) (found rs w n))
    choice true k = h.0
    choice false k = k

builtin-told : {A : Type 0} (Q : A → Type 0) (rows : List (Row A)) (w : Path) (n : ℕ) → AllRows Q rows → Told Q (builtin rows w n)
builtin-told Q rows [] n h = tt
builtin-told Q rows (w ∷ []) n h = found-told Q rows w n h
builtin-told Q rows (w ∷ v ∷ vs) n h = tt

abbrev IsBelow : ℕ → Type 0
IsBelow n = n < 4

insts-below : AllRows IsBelow builtin_insts
unfolding builtin_insts
insts-below = (omega arith, (omega arith, (omega arith, (omega arith, (omega arith, tt)))))

-- ---- insts
append-named : (is js : InstTerms) → EachNamesBuiltin is → EachNamesBuiltin js → EachNamesBuiltin (append_insts is js)
append-named no_insts js h k = k
append-named (inst_then i is) js h k = (h.0, append-named is js h.1 k)

name-named : (o : Option ℕ) (d : ℕ) (is : InstTerms) → Told IsBelow o → EachNamesBuiltin is → NamesBuiltin (builtin_or_defined o d is)
name-named None d is h k = k
name-named (Some n) d is h k = h

module _ (l : Linked) (own : ℕ) (vs : List (List ℕ)) where
  mutual
    inst-named : (t : PlainTerm) → NamesBuiltin (written_inst l own vs t)
    inst-named (at (Var x) line) = tt
    inst-named (at (Int n) line) = tt
    inst-named (at (Str s) line) = tt
    inst-named (at (App w ts) line) = over-named w (is_the_word (codes "bound") w) ts
    inst-named (at (Items ts) line) = tt
    inst-named (at (Tailed ts t) line) = tt
    inst-named (at (Conj ts) line) = tt
    inst-named (at (Disj ts) line) = tt

    over-named : (w : Path) (b : Bool) (ts : PlainTerms) → NamesBuiltin (inst_over l own vs w b ts)
    over-named w b no_term = name-named (builtin builtin_insts w 0) _ no_insts (builtin-told IsBelow builtin_insts w 0 insts-below) tt
    over-named w true (more_terms t no_term) = listed-named t
    over-named w false (more_terms t no_term) = name-named (builtin builtin_insts w 1) _ _ (builtin-told IsBelow builtin_insts w 1 insts-below) (inst-named t, tt)
    over-named w b (more_terms t (more_terms u ts)) =
        name-named (builtin builtin_insts w (2 + count ts)) _ _ (builtin-told IsBelow builtin_insts w (2 + count ts) insts-below) (inst-named t, (inst-named u, insts-named ts))

    insts-named : (ts : PlainTerms) → EachNamesBuiltin (written_insts l own vs ts)
    insts-named no_term = tt
    insts-named (more_terms t ts) = (inst-named t, insts-named ts)

    listed-named : (t : PlainTerm) → EachNamesBuiltin (listed_insts l own vs t)
    listed-named (at (Var x) line) = tt
    listed-named (at (Int n) line) = tt
    listed-named (at (Str s) line) = tt
    listed-named (at (App w ts) line) = insts-named ts
    listed-named (at (Items ts) line) = tt
    listed-named (at (Tailed ts t) line) = append-named (written_insts l own vs ts) (inst_then (written_inst l own vs t) no_insts) (insts-named ts) (inst-named t, tt)
    listed-named (at (Conj ts) line) = tt
    listed-named (at (Disj ts) line) = all-named ts

    all-named : (ts : PlainTerms) → EachNamesBuiltin (all_listed l own vs ts)
    all-named no_term = tt
    all-named (more_terms t ts) = append-named (listed_insts l own vs t) (all_listed l own vs ts) (listed-named t) (all-named ts)

-- ---- bodies
or-none-named : (o : Option InstTerm) → Told NamesBuiltin o → NamesBuiltin (body_or_none o)
or-none-named None h = tt
or-none-named (Some i) h = h

body-by-named : (l : Linked) (own : ℕ) (i : PlainDecl) → Told NamesBuiltin (inst_body_by l own i)
body-by-named l own (ModuleStart w) = tt
body-by-named l own (ModuleEnd w) = tt
body-by-named l own Interface = tt
body-by-named l own Implementation = tt
body-by-named l own (Imports ws) = tt
body-by-named l own (UseOnly ws) = tt
body-by-named l own (AbstractType h) = tt
body-by-named l own (UnionType h ts) = tt
body-by-named l own (SameType h t) = tt
body-by-named l own (SameInst h t) = inst-named l own _ t
body-by-named l own (BoundInst h ts) = all-named l own _ ts
body-by-named l own (ModeDef h t) = tt
body-by-named l own (Pred t d) = tt
body-by-named l own (Func t d) = tt
body-by-named l own (Mode t d) = tt
body-by-named l own Pragma = tt
body-by-named l own (Clause t) = tt

body-of-named : (l : Linked) (o : Option Defined) → NamesBuiltin (inst_body_of l o)
body-of-named l None = tt
body-of-named l (Some d) = or-none-named (inst_body_by l (defining_module l d) d.item) (body-by-named l (defining_module l d) d.item)

pub bodies-named : (l : Linked) (k : ℕ) → NamesBuiltin (inst_bodies l k)
bodies-named l k = body-of-named l (slice_get l.insts k)

-- ---- modes
abbrev pub ModeNames : ModeTerm → Type 0
ModeNames (from_to i j) = NamesBuiltin i × NamesBuiltin j
ModeNames (defined_mode d is) = EachNamesBuiltin is

modes-named : AllRows ModeNames builtin_modes
unfolding builtin_modes
modes-named = ((omega arith, omega arith), ((omega arith, omega arith), ((omega arith, omega arith), ((omega arith, omega arith), tt))))

or-named : (o : Option ModeTerm) (m : ModeTerm) → Told ModeNames o → ModeNames m → ModeNames (mode_or o m)
or-named None m h k = k
or-named (Some o) m h k = h

over-one-named : (w : Path) (is : InstTerms) → EachNamesBuiltin is → Told ModeNames (over_one w is)
over-one-named w no_insts h = tt
over-one-named w (inst_then i no_insts) h = choice (is_the_word (codes "in") w) (is_the_word (codes "out") w)
  where
    choice : (t u : Bool) → Told ModeNames (cond t (Some (from_to i i)) (cond u (Some (from_to (inst_node 0) i)) None))
    choice true u = (h.0, h.0)
    choice false true = (omega arith, h.0)
    choice false false = tt
over-one-named w (inst_then i (inst_then j is)) h = tt

module _ (l : Linked) (own : ℕ) (vs : List (List ℕ)) where
  mode-over-named : (w : Path) (ts : PlainTerms) → ModeNames (mode_over l own vs w ts)
  mode-over-named w ts =
      or-named (builtin builtin_modes w (count ts)) (user_mode l own vs w ts) (builtin-told ModeNames builtin_modes w (count ts) modes-named)
      (or-named (over_one w (written_insts l own vs ts)) (defined_mode _ (written_insts l own vs ts)) (over-one-named w (written_insts l own vs ts) (insts-named l own vs ts)) (insts-named l own vs ts))

  mode-form-named : (t : PlainTerm) (o : Option (PlainTerm × PlainTerm)) → ModeNames (named_mode l own vs t o)
  mode-form-named t (Some p) = (inst-named l own vs p.0, inst-named l own vs p.1)
  mode-form-named (at (Var x) line) None = tt
  mode-form-named (at (Int n) line) None = tt
  mode-form-named (at (Str s) line) None = tt
  mode-form-named (at (App w ts) line) None = mode-over-named w ts
  mode-form-named (at (Items ts) line) None = tt
  mode-form-named (at (Tailed ts t) line) None = tt
  mode-form-named (at (Conj ts) line) None = tt
  mode-form-named (at (Disj ts) line) None = tt

  mode-named : (t : PlainTerm) → ModeNames (written_mode l own vs t)
  mode-named t = mode-form-named t (operands (codes ">>") t)

mode-by-named : (l : Linked) (own : ℕ) (i : PlainDecl) → Told ModeNames (mode_body_by l own i)
mode-by-named l own (ModuleStart w) = tt
mode-by-named l own (ModuleEnd w) = tt
mode-by-named l own Interface = tt
mode-by-named l own Implementation = tt
mode-by-named l own (Imports ws) = tt
mode-by-named l own (UseOnly ws) = tt
mode-by-named l own (AbstractType h) = tt
mode-by-named l own (UnionType h ts) = tt
mode-by-named l own (SameType h t) = tt
mode-by-named l own (SameInst h t) = tt
mode-by-named l own (BoundInst h ts) = tt
mode-by-named l own (ModeDef h t) = mode-named l own _ t
mode-by-named l own (Pred t d) = tt
mode-by-named l own (Func t d) = tt
mode-by-named l own (Mode t d) = tt
mode-by-named l own Pragma = tt
mode-by-named l own (Clause t) = tt

mode-of-named : (l : Linked) (o : Option Defined) → Told ModeNames (mode_body_of l o)
mode-of-named l None = tt
mode-of-named l (Some d) = mode-by-named l (defining_module l d) d.item

pub mode-bodies-named : (l : Linked) (k : ℕ) (m : ModeTerm) → mode_bodies l k ≡ Some m → ModeNames m
mode-bodies-named l k m e = subst (Told ModeNames) e (mode-of-named l (slice_get l.modes k))

-- ---- declared modes
abbrev pub EachModeNames : List ModeTerm → Type 0
EachModeNames [] = Unit {0}
EachModeNames (m ∷ ms) = ModeNames m × EachModeNames ms

both-named : (ms ns : List ModeTerm) → EachModeNames ms → EachModeNames ns → EachModeNames (ms ++ ns)
both-named [] ns h k = k
both-named (m ∷ ms) ns h k = (h.0, both-named ms ns h.1 k)

module _ (l : Linked) (own : ℕ) where
  moded-named : (o : Option (PlainTerm × PlainTerm)) → EachModeNames (moded l own o)
  moded-named None = tt
  moded-named (Some p) = (mode-named l own [] p.1, tt)

  arguments-named : (ts : PlainTerms) → EachModeNames (modes_of_arguments l own ts)
  arguments-named no_term = tt
  arguments-named (more_terms t ts) = both-named (moded l own (operands (codes "::") t)) (modes_of_arguments l own ts) (moded-named (operands (codes "::") t)) (arguments-named ts)

  signature-named : (t : PlainTerm) → EachModeNames (modes_of_signature l own t)
  signature-named (at (Var x) line) = tt
  signature-named (at (Int n) line) = tt
  signature-named (at (Str s) line) = tt
  signature-named (at (App w ts) line) = arguments-named ts
  signature-named (at (Items ts) line) = tt
  signature-named (at (Tailed ts t) line) = tt
  signature-named (at (Conj ts) line) = tt
  signature-named (at (Disj ts) line) = tt

  written-named : (ts : PlainTerms) → EachModeNames (written_modes l own ts)
  written-named no_term = tt
  written-named (more_terms t ts) = (mode-named l own [] t, written-named ts)

  head-named : (t : PlainTerm) → EachModeNames (modes_of_head l own t)
  head-named (at (Var x) line) = tt
  head-named (at (Int n) line) = tt
  head-named (at (Str s) line) = tt
  head-named (at (App w ts) line) = written-named ts
  head-named (at (Items ts) line) = tt
  head-named (at (Tailed ts t) line) = tt
  head-named (at (Conj ts) line) = tt
  head-named (at (Disj ts) line) = tt

  moded-function-named : (h : PlainTerm) (o : Option (PlainTerm × PlainTerm)) → Told EachModeNames (moded_function l own h o)
  moded-function-named h None = tt
  moded-function-named h (Some p) = both-named (modes_of_signature l own h) (written_mode l own [] p.1 ∷ []) (signature-named h) (mode-named l own [] p.1, tt)

  function-named : (o : Option (PlainTerm × PlainTerm)) → Told EachModeNames (function_modes l own o)
  function-named None = tt
  function-named (Some p) = moded-function-named p.0 (operands (codes "::") p.1)

  further-named : (t : PlainTerm) (o : Option (PlainTerm × PlainTerm)) → EachModeNames (further_modes l own t o)
  further-named t None = head-named t
  further-named t (Some p) = both-named (modes_of_head l own p.0) (written_mode l own [] p.1 ∷ []) (head-named p.0) (mode-named l own [] p.1, tt)

  declared-named : (i : PlainDecl) → Told EachModeNames (declared_by l own i)
  declared-named (ModuleStart w) = tt
  declared-named (ModuleEnd w) = tt
  declared-named Interface = tt
  declared-named Implementation = tt
  declared-named (Imports ws) = tt
  declared-named (UseOnly ws) = tt
  declared-named (AbstractType h) = tt
  declared-named (UnionType h ts) = tt
  declared-named (SameType h t) = tt
  declared-named (SameInst h t) = tt
  declared-named (BoundInst h ts) = tt
  declared-named (ModeDef h t) = tt
  declared-named (Pred t d) = choice (is_mode_too t (is_some d))
    where
      choice : (b : Bool) → Told EachModeNames (cond b (Some (modes_of_signature l own t)) None)
      choice true = signature-named t
      choice false = tt
  declared-named (Func t d) = function-named (operands (codes "=") t)
  declared-named (Mode t d) = further-named t (operands (codes "=") t)
  declared-named Pragma = tt
  declared-named (Clause t) = tt

abbrev pub AllModesName : List PlainMode → Type 0
AllModesName [] = Unit {0}
AllModesName (w ∷ ws) = EachModeNames w.modes × AllModesName ws

rows-both : (ms ns : List PlainMode) → AllModesName ms → AllModesName ns → AllModesName (ms ++ ns)
rows-both [] ns h k = k
rows-both (m ∷ ms) ns h k = (h.0, rows-both ms ns h.1 k)

module _ (l : Linked) (own : ℕ) (x : Callable) where
  option-named : (e : PlainDecl × Place) (o : Option (List ModeTerm)) → Told EachModeNames o → AllModesName (option_to_list (option_map (λ ms. record { modes = ms; det = determinism_of e.0; at = e.1 }) o))
  option-named e None h = tt
  option-named e (Some ms) h = (h, tt)

  by-named : (e : PlainDecl × Place) → AllModesName (modes_by l own x e)
  by-named e = choice (is_that x (callable e.0))
    where
      choice : (t : Bool) → AllModesName (cond t (option_to_list (mode_by l own e)) [])
      choice true = option-named e (declared_by l own e.0) (declared-named l own e.0)
      choice false = tt

  among-named : (es : File) → AllModesName (modes_among l own x es)
  among-named [] = tt
  among-named (e ∷ es) = rows-both (modes_by l own x e) (modes_among l own x es) (by-named e) (among-named es)

inputs-named : (n : ℕ) → EachModeNames (replicate n (from_to (inst_node 1) (inst_node 1)))
inputs-named zero = tt
inputs-named (suc n) = ((omega arith, omega arith), inputs-named n)

default-named : (n : ℕ) (place : Place) → EachModeNames (default_mode n place).modes
default-named n place = both-named (replicate n (from_to (inst_node 1) (inst_node 1))) (from_to (inst_node 0) (inst_node 1) ∷ []) (inputs-named n) ((omega arith, omega arith), tt)

or-default-named : (d : Defined) (ms : List PlainMode) → AllModesName ms → AllModesName (or_default d ms)
or-default-named d [] h = choice (is_function d.item)
  where
    choice : (t : Bool) → AllModesName (cond t (default_mode d.name.arity d.at ∷ []) [])
    choice true = (default-named d.name.arity d.at, tt)
    choice false = tt
or-default-named d (m ∷ ms) h = h

abbrev pub AllRowsName : List (List PlainMode) → Type 0
AllRowsName [] = Unit {0}
AllRowsName (ws ∷ rows) = AllModesName ws × AllRowsName rows

preds-named : (l : Linked) (files : List File) (ds : List Defined) → AllRowsName (map (modes_of l files) ds)
preds-named l files [] = tt
preds-named l files (d ∷ ds) =
    (or-default-named d (modes_among l (defining_module l d) (callable_of d) (slice_index_or files (defining_module l d) [])) (among-named l (defining_module l d) (callable_of d) (slice_index_or files (defining_module l d) [])), preds-named l files ds)

pub rows-named : (l : Linked) (files : List File) → AllRowsName (declared_modes l files)
rows-named l files = preds-named l files l.preds
