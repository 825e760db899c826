-- The nodes that definitions make, in the place of the numbers of insts.
use Rattle.std.proofs.Common.{◌≡◌, ℕ, zero, suc, ◌+◌, ◌<◌, ◌≤◌, List, [], ◌∷◌, ◌++◌, length, get_or, take, refl, sym, ap, ◌∙◌, subst, arith, length-append}
use Rattle.std.specs.Prelude.{slice_index_or}
use Rattle.std.proofs.lemmas.List.{take_more, take_all, length-map, get_or_append_left, get_or-append-add}
use Rattle.mc_model.specs.declared.inst.InstRef.{InstRef}
use Rattle.mc_model.specs.declared.inst.InstRef.TheVariants.{New}
use Rattle.mc_model.specs.declared.inst.Choice.{Choice}
use Rattle.mc_model.specs.declared.inst.ModeDecl.{ModeDecl}
use Rattle.mc_model.specs.declared.inst.Sig.{Sig}
use Rattle.mc_accepted.specs.InstRules.{PlainInstDef, same_inst, bound_inst, definition_at}
use Rattle.mc_insts.specs.declared.define.InstDef.{InstDef}
use Rattle.mc_insts.specs.declared.define.InstDef.TheVariants as D
use Rattle.mc_insts.specs.Defining.{plain_definition, plain_definitions, bounds_of, node_made, IsNode, made, another_name}
use Rattle.mc_insts.proofs.Found.{by_order}
use Rattle.mc_signatures.specs.code.Rows.{reference, AreMade, AreNumbered, IsPlaced, ModesPlaced, SigsPlaced}

-- the definition in a place
pub definition_of : (ds : List InstDef) (k : ℕ) (d : InstDef) → k < length ds → d ≡ slice_index_or ds k d → definition_at (plain_definitions ds) k ≡ plain_definition d
definition_of [] k d lt at = absurd (omega arith)
definition_of (e ∷ ds) zero d lt at = ap plain_definition (sym at)
definition_of (e ∷ ds) (suc k) d lt at = definition_of ds k d (let h : suc k < suc (length ds) = lt in omega arith) at

-- an inst that is the name of another has its node
pub node_by_name : (ds : List InstDef) (k : ℕ) (d : InstDef) (r : InstRef) (n : ℕ) → k < length ds → d ≡ slice_index_or ds k d → d ≡ D.Is r → IsNode (plain_definitions ds) 4 r n → IsNode (plain_definitions ds) 4 (New k) n
node_by_name ds k d r n lt at form node = another_name (definition_of ds k d lt at ∙ ap plain_definition form) node

-- a definition that lists constructors has the node that it makes
pub node_of_list :
    (ds : List InstDef) (k : ℕ) (d : InstDef) (cs : List Choice) (ns : List ℕ)
    → AreMade (plain_definitions ds) ns → k < length ds → d ≡ slice_index_or ds k d → d ≡ D.Bound cs
    → IsNode (plain_definitions ds) 4 (New k) (get_or ns k 0)
node_of_list ds k d cs ns are lt at form =
    let less : k < length (plain_definitions ds) = omega (arith, length-map ds plain_definition) in
    made (definition_of ds k d lt at ∙ ap plain_definition form) (sym (are.1 k 0 less))

-- THE NODES THAT ARE MADE, in the order of the definitions

pub record MadeBefore (ds : List PlainInstDef) (place : ℕ) (nodes : List ℕ) (next : ℕ) : Type 0 where
  pub count : length nodes ≡ place
  pub next_is : next ≡ node_made ds 4 place
  pub each : (k e : ℕ) → k < place → node_made ds 4 k ≡ get_or nodes k e

pub made_first : (ds : List PlainInstDef) → MadeBefore ds 0 [] 4
made_first ds = record { count = refl; next_is = refl; each = λ k e lt. absurd (omega arith) }

bounds_more : (ds : List PlainInstDef) (d : PlainInstDef) → bounds_of (ds ++ d ∷ []) ≡ bounds_of ds + bounds_of (d ∷ [])
bounds_more [] d = omega arith
bounds_more (same_inst r ∷ ds) d = bounds_more ds d
bounds_more (bound_inst cs ∷ ds) d = let h = bounds_more ds d in omega arith

pub made_step :
    (ds : List InstDef) (i : ℕ) (d : InstDef) (nodes all : List ℕ) (next behind : ℕ)
    → i < length ds → d ≡ get_or ds i d → all ≡ nodes ++ next ∷ [] → behind ≡ next + bounds_of (plain_definition d ∷ [])
    → MadeBefore (plain_definitions ds) i nodes next → MadeBefore (plain_definitions ds) (i + 1) all behind
made_step ds i d nodes all next behind lt at grown goes_on before =
    let es = plain_definitions ds in
    let here : definition_at es i ≡ plain_definition d = definition_of ds i d lt at in
    let less : i < length es = omega (arith, length-map ds plain_definition) in
    let more : take (i + 1) es ≡ take i es ++ plain_definition d ∷ [] =
    take_more es i (bound_inst []) less ∙ ap (λ x. take i es ++ x ∷ []) here in
    let sum : bounds_of (take (i + 1) es) ≡ bounds_of (take i es) + bounds_of (plain_definition d ∷ []) =
    ap bounds_of more ∙ bounds_more (take i es) (plain_definition d) in
    let count = before.count in
    let is = before.next_is in
    record {
      count = omega (arith, ap (λ (ns : List ℕ). length ns) grown, length-append nodes (next ∷ []));
      next_is = omega (arith, sum);
      each = λ k e below.
          by_order k i
          (λ x. before.each k e x ∙ sym (get_or_append_left nodes (next ∷ []) e k (omega arith)) ∙ ap (λ (ns : List ℕ). get_or ns k e) (sym grown))
          (λ x.
          let last : k ≡ length nodes + 0 = omega arith in
          ap (node_made es 4) x ∙ sym is ∙ sym (get_or-append-add nodes (next ∷ []) 0 e)
          ∙ ap (λ n. get_or (nodes ++ next ∷ []) n e) (sym last)
          ∙ ap (λ (ns : List ℕ). get_or ns k e) (sym grown))
          (λ x. absurd (omega arith));
    }

pub made_all : (ds : List InstDef) (i : ℕ) (nodes : List ℕ) (next : ℕ) → i ≡ length ds → MadeBefore (plain_definitions ds) i nodes next → AreMade (plain_definitions ds) nodes
made_all ds i nodes next whole before =
    let same : length (plain_definitions ds) ≡ length ds = length-map ds plain_definition in
    let count = before.count in (
      omega arith,
      λ k e lt. before.each k e (omega arith),
    )

-- LISTS that are placed one by one

pub numbered_more : (ds : List PlainInstDef) (ks ns : List ℕ) (k n : ℕ) → AreNumbered ds ks ns → IsNode ds 4 (reference k) n → AreNumbered ds (ks ++ k ∷ []) (ns ++ n ∷ [])
numbered_more ds [] [] k n are one = (one, tt)
numbered_more ds [] (m ∷ ns) k n are one = absurd are
numbered_more ds (j ∷ ks) [] k n are one = absurd are
numbered_more ds (j ∷ ks) (m ∷ ns) k n are one = (are.0, numbered_more ds ks ns k n are.1 one)

pub placed_more : (ds : List PlainInstDef) (ms ps : List ModeDecl) (m p : ModeDecl) → ModesPlaced ds ms ps → IsPlaced ds m p → ModesPlaced ds (ms ++ m ∷ []) (ps ++ p ∷ [])
placed_more ds [] [] m p are one = (one, tt)
placed_more ds [] (q ∷ ps) m p are one = absurd are
placed_more ds (o ∷ ms) [] m p are one = absurd are
placed_more ds (o ∷ ms) (q ∷ ps) m p are one = (are.0, placed_more ds ms ps m p are.1 one)

pub sigs_more : (ds : List PlainInstDef) (ss us : List Sig) (s u : Sig) → SigsPlaced ds ss us → u.pred ≡ s.pred → ModesPlaced ds s.modes u.modes → SigsPlaced ds (ss ++ s ∷ []) (us ++ u ∷ [])
sigs_more ds [] [] s u are pred modes = (pred, modes, tt)
sigs_more ds [] (v ∷ us) s u are pred modes = absurd are
sigs_more ds (t ∷ ss) [] s u are pred modes = absurd are
sigs_more ds (t ∷ ss) (v ∷ us) s u are pred modes = (are.0, are.1, sigs_more ds ss us s u are.2 pred modes)

-- so many were placed
pub taken : {A : Type 0} (xs : List A) (k : ℕ) (x : A) → k < length xs → x ≡ get_or xs k x → take (k + 1) xs ≡ take k xs ++ x ∷ []
taken {A} xs k x below at = take_more xs k x below ∙ ap (λ (y : A). take k xs ++ y ∷ []) (sym at)

pub numbered_step :
    (ds : List PlainInstDef) (ks ns : List ℕ) (i n : ℕ)
    → i < length ks → IsNode ds 4 (reference (get_or ks i 0)) n → AreNumbered ds (take i ks) ns
    → AreNumbered ds (take (i + 1) ks) (ns ++ n ∷ [])
numbered_step ds ks ns i n below one are =
    subst (λ js. AreNumbered ds js (ns ++ n ∷ [])) (sym (take_more ks i 0 below)) (numbered_more ds (take i ks) ns (get_or ks i 0) n are one)

pub numbered_all : (ds : List PlainInstDef) (ks ns : List ℕ) (i : ℕ) → length ks ≤ i → AreNumbered ds (take i ks) ns → AreNumbered ds ks ns
numbered_all ds ks ns i past are = subst (λ js. AreNumbered ds js ns) (take_all i ks past) are

pub placed_step :
    (ds : List PlainInstDef) (ms ps : List ModeDecl) (i : ℕ) (m p : ModeDecl)
    → i < length ms → m ≡ get_or ms i m → IsPlaced ds m p → ModesPlaced ds (take i ms) ps
    → ModesPlaced ds (take (i + 1) ms) (ps ++ p ∷ [])
placed_step ds ms ps i m p below at one are =
    subst (λ (ns : List ModeDecl). ModesPlaced ds ns (ps ++ p ∷ [])) (sym (taken ms i m below at)) (placed_more ds (take i ms) ps m p are one)

pub placed_all : (ds : List PlainInstDef) (ms ps : List ModeDecl) (i : ℕ) → length ms ≤ i → ModesPlaced ds (take i ms) ps → ModesPlaced ds ms ps
placed_all ds ms ps i past are = subst (λ (ns : List ModeDecl). ModesPlaced ds ns ps) (take_all i ms past) are

pub sigs_step :
    (ds : List PlainInstDef) (ss us : List Sig) (i : ℕ) (s u : Sig)
    → i < length ss → s ≡ get_or ss i s → u.pred ≡ s.pred → ModesPlaced ds s.modes u.modes → SigsPlaced ds (take i ss) us
    → SigsPlaced ds (take (i + 1) ss) (us ++ u ∷ [])
sigs_step ds ss us i s u below at pred modes are =
    subst (λ (rs : List Sig). SigsPlaced ds rs (us ++ u ∷ [])) (sym (taken ss i s below at)) (sigs_more ds (take i ss) us s u are pred modes)

pub sigs_all : (ds : List PlainInstDef) (ss us : List Sig) (i : ℕ) → length ss ≤ i → SigsPlaced ds (take i ss) us → SigsPlaced ds ss us
sigs_all ds ss us i past are = subst (λ (rs : List Sig). SigsPlaced ds rs us) (take_all i ss past) are
