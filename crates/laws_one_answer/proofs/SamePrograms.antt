-- What is read of a program is one where programs are one: what fits one fits the other, and goals
-- become the same.
use Rattle.std.proofs.Common.{◌≡◌, ◌↔◌, ℕ, ◌<◌, List, [], codes, ◌∷◌, map, length, get_or, Some, None, refl, sym, ap, ap₂, ◌∙◌, subst, true}
use Rattle.std.specs.List.{flat_map}
use Rattle.std.proofs.lemmas.List.{length-map}
use Rattle.std.proofs.lemmas.Simd.{map-map}
use Rattle.mc_program.specs.Programs.{TypeTerm, Source, FullName, Constructor}
use Rattle.mc_program.specs.PlainPrograms.{plain_name, plain_type, plain_symbol, plain_pred, plain_program}
use Rattle.mc_program.specs.Printed.{names_of, printed}
use Rattle.mc_program.specs.declared.builtin.Builtin.{Builtin}
use Rattle.mc_program.specs.declared.builtin.Builtin.TheVariants as B
use Rattle.mc_program.specs.declared.program.Program.{Program}
use Rattle.mc_program.specs.declared.program.Symbol.{Symbol}
use Rattle.mc_program.specs.declared.program.TypeDef.{TypeDef}
use Rattle.mc_program.specs.declared.ty.Ty.{Ty}
use Rattle.mc_model.specs.Builtins.{Library}
use Rattle.mc_model.specs.Flat as F
use Rattle.mc_model.specs.Flat.{Flat_goal, Flat_goals, no_flat, flat_then, variables_of}
use Rattle.mc_model.specs.Lists.{from, In}
use Rattle.mc_model.specs.PlainGoals.{plain_flat}
use Rattle.mc_model.specs.Scheduled.{Procedure}
use Rattle.mc_model.specs.Worlds.{library_of, library_name, symbol_number, full_names}
use Rattle.mc_model.specs.declared.flat.Normal.{Normal}
use Rattle.mc_model.specs.declared.inst.ModeDecl.{ModeDecl}
use Rattle.mc_model.specs.declared.inst.Sig.{Sig}
use Rattle.mc_accepted.specs.BuiltinTypes.{Library_types, list_of, HasBuiltins}
use Rattle.mc_accepted.specs.NodeOracle.{NodeOracle}
use Rattle.mc_accepted.specs.Forms.{node_takes_constants}
use Rattle.mc_accepted.specs.Inclusion.{Included}
use Rattle.mc_accepted.specs.Fits.{FitsTypes, FitsProcedure}
use Rattle.mc_accepted.specs.ProperTypes.{Parameters}
use Rattle.mc_insts.specs.declared.insts.Insts.{Insts}
use Rattle.mc_insts.specs.Graphs.{count_of}
use Rattle.mc_insts.specs.Growing.{Grown}
use Rattle.mc_insts.specs.Kept.{AreOf}
use Rattle.mc_insts.specs.Narrowed.{Narrowed}
use Rattle.mc_self_check.specs.HasLibrary.{IsConstructor, item, HasMade, HasLibrary}
use Rattle.mc_procs.specs.Fitting.{ProcedureFits, ProgramFits, AllFit}
use Rattle.mc_procs.specs.Named.{NumbersBelow, Named}
use Rattle.mc_procs.specs.Procedures.{PlainProcs, insts_of, parameters_in, procedure_at, as_system}
use Rattle.mc_mode_state.specs.Agreeing.{OracleAgrees, StateInvariant}
use Rattle.mc_mode_state.specs.Nodes.{NodesAre}
use Rattle.mc_mode_state.specs.declared.state.State.{State}
use Rattle.mc_modes.specs.Fitting.{Known, AllKnown}
use Rattle.mc_modes.specs.Schedules.{NormalFits}
use Rattle.mc_modes.specs.Signatures.{modes_at}
use Rattle.mc_modes.specs.Tries.{with_types}
use Rattle.mc_modes.specs.Tries as Tries
use Rattle.mc_modes.specs.Numbering.{ids_of, unless_builtin, mode_ids}
use Rattle.laws_modes.proofs.SameTypes.{plain_type-injective}
use Rattle.laws_one_answer.specs.OneWhole.{GoalIsOne, OneProgram}
use Rattle.laws_one_answer.specs.OneProgram.{over}

-- ---- what is read of a program
pub record Same (P Q : Program) : Type 0 where
  pub source : plain_program Q ≡ plain_program P
  pub preds : length Q.preds ≡ length P.preds
  pub symbols : length Q.symbols ≡ length P.symbols
  pub params : parameters_in Q ≡ parameters_in P
  pub library : library_of Q ≡ library_of P

pub back : (P Q : Program) → Same P Q → Same Q P
back P Q e = record { source = sym e.source; preds = sym e.preds; symbols = sym e.symbols; params = sym e.params; library = sym e.library }

-- what the library's symbols are, by the names of symbols
abbrev library-by : List FullName → Library
library-by ns =
    record {
      nil = symbol_number (library_name (codes "list") (codes "[]") 0) ns;
      cons = symbol_number (library_name (codes "list") (codes "[|]") 2) ns;
      ok = symbol_number (library_name (codes "io") (codes "ok") 1) ns;
      eof = symbol_number (library_name (codes "io") (codes "eof") 0) ns;
      text_of = printed (map (λ (n : FullName). n.bytes) ns);
    }

library-is : (P : Program) → library-by (map (λ (c : Constructor). c.name) (map plain_symbol P.symbols)) ≡ library_of P
library-is P =
    let names = λ (c : Constructor). c.name in
    let bytes = λ (n : FullName). n.bytes in
    let e : map names (map plain_symbol P.symbols) ≡ full_names P = map-map names plain_symbol P.symbols in
    ap library-by e ∙ ap (λ (bs : List (List ℕ)). record (library_of P) { text_of = printed bs }) (map-map bytes (λ (s : Symbol). plain_name s.name) P.symbols)

many : {A B : Type 0} (f : A → B) (xs ys : List A) → map f ys ≡ map f xs → length ys ≡ length xs
many f xs ys e = sym (length-map ys f) ∙ ap length e ∙ length-map xs f

-- programs that are one value are one
pub one-value : (P Q : Program) → Q ≡ P → OneProgram P Q
one-value P Q e = subst (OneProgram P) (sym e) (record { source = refl; preds = refl; symbols = refl; types = refl })

pub one-after : (P Q R : Program) → OneProgram P Q → OneProgram Q R → OneProgram P R
one-after P Q R a b =
    record { source = b.source ∙ a.source; preds = b.preds ∙ a.preds; symbols = b.symbols ∙ a.symbols; types = b.types ∙ a.types }

-- values are written with the same names
pub one-names : (P Q : Program) → OneProgram P Q → names_of Q ≡ names_of P
one-names P Q one =
    let bytes : Constructor → List ℕ = λ c. c.name.bytes in
    sym (map-map bytes plain_symbol Q.symbols) ∙ ap (map bytes) one.symbols ∙ map-map bytes plain_symbol P.symbols

pub same-of : (P Q : Program) → OneProgram P Q → Same P Q
same-of P Q one =
    record {
      source = one.source;
      preds = many plain_pred P.preds Q.preds one.preds;
      symbols = many plain_symbol P.symbols Q.symbols one.symbols;
      params =
          let f : List TypeDef → Parameters = λ ts u. get_or (map (λ (t : TypeDef). Some t.params) ts) u None in
          ap f one.types;
      library = sym (library-is Q) ∙ ap (λ (cs : List Constructor). library-by (map (λ (c : Constructor). c.name) cs)) one.symbols ∙ library-is P;
    }

-- ---- what is read of goals
pub record SameGoal (g h : Normal) : Type 0 where
  pub pred : h.pred ≡ g.pred
  pub head : h.head ≡ g.head
  pub body : plain_flat h.body ≡ plain_flat g.body
  pub types : h.var_types ≡ g.var_types
  pub names : h.var_names ≡ g.var_names

pub back-goal : (g h : Normal) → SameGoal g h → SameGoal h g
back-goal g h e = record { pred = sym e.pred; head = sym e.head; body = sym e.body; types = sym e.types; names = sym e.names }

head-or : Ty → List Ty → Ty
head-or d [] = d
head-or d (x ∷ xs) = x

types-are : (ts us : List Ty) → map plain_type us ≡ map plain_type ts → us ≡ ts
types-are [] [] e = refl
types-are [] (u ∷ us) e = cc
types-are (t ∷ ts) [] e = cc
types-are (t ∷ ts) (u ∷ us) e =
    ap₂ (λ x xs. x ∷ xs)
    (plain_type-injective u t (let e0 : plain_type u ≡ plain_type t = cc in e0))
    (types-are ts us (let e1 : map plain_type us ≡ map plain_type ts = cc in e1))

pub same-goal : (g h : Normal) → GoalIsOne g h → SameGoal g h
same-goal g h one =
    record { pred = one.pred; head = one.head; body = one.body; types = types-are g.var_types h.var_types one.types; names = one.names }

pub of-goal : (g h : Normal) → SameGoal g h → (X : List Ty → List ℕ → Flat_goal → Type 0) → X h.var_types h.head (plain_flat h.body) → X g.var_types g.head (plain_flat g.body)
of-goal g h e X x =
    let A : List Ty → Type 0 = λ ts. X ts g.head (plain_flat g.body) in
    let B : List ℕ → Type 0 = λ vs. X h.var_types vs (plain_flat g.body) in
    subst A e.types (subst B e.head (subst (X h.var_types h.head) e.body x))

-- ---- what is over one program is over the other
module _ (P Q : Program) (same : Same P Q) where
  pub grown : (I J : Insts) → Grown (plain_program Q) I J → Grown (plain_program P) I J
  grown I J h = let A : Source → Type 0 = λ S. Grown S I J in subst A same.source h

  pub numbered : (sigs : List Sig) → mode_ids Q sigs ≡ mode_ids P sigs
  numbered sigs =
      ap₂ (λ S n. flat_map (λ (p : ℕ). unless_builtin (S.preds p).builtin (ids_of p (from 0 (length (modes_at sigs p))))) (from 0 n)) same.source same.preds

  pub procedure_fits : (q : PlainProcs) (p : Procedure) → ProcedureFits (over Q q) p → ProcedureFits (over P q) p
  procedure_fits q p h =
      let N : ℕ → Type 0 = λ n. Named (record { variables = length p.var_types; symbols = n; procedures = length q.preds; insts = count_of q.insts }) p.body in
      record {
        head = h.head;
        first = h.first;
        last = h.last;
        body = subst N same.symbols h.body;
        fits = λ outcome.
            let A : Source → Type 0 = λ S. FitsProcedure (record { world = record { source = S; outcome = outcome }; count = length q.added; procs = procedure_at q.added; insts = insts_of q }) (parameters_in Q) p in
            let B : Parameters → Type 0 = λ D. FitsProcedure (as_system outcome (over P q)) D p in
            subst B same.params (subst A same.source (h.fits outcome));
      }

  pub program_fits : (I : Insts) → ProgramFits Q I → ProgramFits P I
  program_fits I h =
      let A : Source → Type 0 = λ S. AreOf S I in
      let B : Source → Type 0 = λ S. FitsTypes S (parameters_in Q) in
      record {
        insts_are = subst A same.source h.insts_are;
        types = subst (FitsTypes (plain_program P)) same.params (subst B same.source h.types);
      }

  pub all_fit : (q : PlainProcs) → AllFit (over Q q) → AllFit (over P q)
  all_fit q h =
      record {
        program = program_fits q.insts h.program;
        fewer = h.fewer;
        preds = h.preds;
        each = λ k lt. procedure_fits q (procedure_at q.added k) (h.each k lt);
      }

  pub agrees : (q : PlainProcs) (s : State) (C : NodeOracle) (T : ℕ → TypeTerm) → OracleAgrees (over Q q) s C T → OracleAgrees (over P q) s C T
  agrees q s C T h =
      let A : Source → Type 0 = λ S. (i : ℕ) → i < count_of q.insts → C.takes_constants i ≡ node_takes_constants S (insts_of q) (insts_of q i) in
      let B : Source → Type 0 = λ S. (i f : ℕ) → i < count_of q.insts → Narrowed S (insts_of q) i f (C.narrowed i f) in
      let D : Source → Type 0 = λ S. (i j : ℕ) (t : TypeTerm) → i < count_of q.insts → j < count_of q.insts → (C.fits i j t ≡ true) ↔ Included S (insts_of q) i j t in
      record {
        dies = h.dies;
        constants = subst A same.source h.constants;
        narrowed = subst B same.source h.narrowed;
        fits = subst D same.source h.fits;
        over = h.over;
        joined = h.joined;
        types = h.types;
      }

  pub stands : (q : PlainProcs) (s : State) → StateInvariant (over Q q) s → StateInvariant (over P q) s
  stands q s h =
      let A : Source → Type 0 = λ S. NodesAre S q.insts s.nodes in
      record {
        fit = all_fit q h.fit;
        even = h.even;
        insts = h.insts;
        trail = h.trail;
        nodes = subst A same.source h.nodes;
      }

  pub suits : (first : ℕ) (q : PlainProcs) (s : State) (C : NodeOracle) (T : ℕ → TypeTerm) → Tries.AgreesOnClause first (over Q q) s C T → Tries.AgreesOnClause first (over P q) s C T
  suits first q s C T h = record { agrees = agrees q s C (with_types first s T) h.agrees }

  -- ---- the library
  constructor : (k u : ℕ) (ts : List TypeTerm) → IsConstructor Q k u ts → IsConstructor P k u ts
  constructor k u ts h =
      let A : Source → Type 0 = λ S. (S.symbols k).of_type ≡ u in
      let B : Source → Type 0 = λ S. In k (S.symbols_of u) in
      let D : Source → Type 0 = λ S. (S.symbols k).args ≡ ts in
      record {
        there = subst (λ n. k < n) same.symbols h.there;
        of_type = subst A same.source h.of_type;
        listed = subst B same.source h.listed;
        args = subst D same.source h.args;
      }

  made : (L : Library) (K : Library_types) (op : Builtin) → HasMade Q L K op → HasMade P L K op
  made L K B.ToCharList h = record { nil = constructor L.nil K.list [] h.nil; cons = constructor L.cons K.list (item ∷ list_of K item ∷ []) h.cons }
  made L K B.ReadLine h = record { ok = constructor L.ok K.result (item ∷ []) h.ok; eof = constructor L.eof K.result [] h.eof }
  made L K op h = h

  pub has_library : HasLibrary Q → HasLibrary P
  has_library (K, builtins, all) = (
    K,
    subst (λ S. HasBuiltins S K) same.source builtins,
    λ p op e.
        let A : Library → Type 0 = λ L. HasMade Q L K op in
        let E : Source → Type 0 = λ S. (S.preds p).builtin ≡ Some op in
        made (library_of P) K op (subst A same.library (all p op (subst E (sym same.source) e))),
  )

  -- ---- goals
  mutual
    known : (g : Flat_goal) → Known Q g → Known P g
    known (F.Same x y) h = tt
    known (F.Made x s ys) h =
        let A : Source → Type 0 = λ S. length ys ≡ (S.symbols s).name.arity in
        (subst (λ n. s < n) same.symbols h.0, subst A same.source h.1)
    known (F.Is x v) h = tt
    known (F.Call p xs) h = subst (λ n. p < n) same.preds h
    known (F.And gs) h = all_known gs h
    known (F.Or gs) h = all_known gs h
    known (F.If vs c t e) h = (known c h.0, known t h.1, known e h.2)
    known (F.Not g) h = known g h
    known (F.Exists vs g) h = known g h

    all_known : (gs : Flat_goals) → AllKnown Q gs → AllKnown P gs
    all_known no_flat h = tt
    all_known (flat_then g gs) h = (known g h.0, all_known gs h.1)

  pub normal_fits : (q : PlainProcs) (m : ModeDecl) (g h : Normal) → SameGoal g h → NormalFits (over Q q) m h → NormalFits (over P q) m g
  normal_fits q m g h e f =
      let A : List Ty → List ℕ → Flat_goal → Type 0 = λ ts vs b. NumbersBelow (length ts) vs in
      let B : List Ty → List ℕ → Flat_goal → Type 0 = λ ts vs b. length m.first ≡ length vs in
      let D : List Ty → List ℕ → Flat_goal → Type 0 = λ ts vs b. NumbersBelow (length ts) (variables_of b) in
      let E : List Ty → List ℕ → Flat_goal → Type 0 = λ ts vs b. Known P b in
      record {
        head = of-goal g h e A f.head;
        as_many = of-goal g h e B f.as_many;
        variables = of-goal g h e D f.variables;
        known = of-goal g h e E (known (plain_flat h.body) f.known);
      }
