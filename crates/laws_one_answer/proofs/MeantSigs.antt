-- Signatures of written modes, by two lists of definitions, are one.
use Rattle.std.proofs.Common.{◌≡◌, inl, ℕ, zero, suc, List, [], ◌∷◌, ◌++◌, replicate, Option, Some, refl, sym, ◌∙◌, subst, arith}
use Rattle.mc_source.specs.declared.det.Det.{Det}
use Rattle.mc_source.specs.declared.place.Place.{Place}
use Rattle.mc_program.specs.declared.builtin.Builtin.{Builtin}
use Rattle.mc_program.specs.declared.program.Program.{Program}
use Rattle.mc_model.specs.declared.inst.ModeDecl.{ModeDecl}
use Rattle.mc_model.specs.declared.inst.Sig.{Sig}
use Rattle.mc_accepted.specs.InstRules.{PlainInstDef, InstTerm, inst_node, InstTerms, at_that}
use Rattle.mc_names.specs.Linked.{Linked}
use Rattle.mc_inst_table.specs.Rules.{inst_bodies}
use Rattle.mc_inst_table.specs.Written.{ModeTerm, from_to, defined_mode}
use Rattle.mc_signatures.specs.WrittenModes.{PlainMode, declared_modes}
use Rattle.mc_signatures.specs.MeantInsts.{IsMeant}
use Rattle.mc_signatures.specs.MeantModes.{mode_over, Goes, from_and_to, as_defined, MeansMode}
use Rattle.mc_signatures.specs.Signatures.{number_or_none, next_number, next_behind, EachMeans, IsDeclared, AreDeclared, AreSignatures, query_signature}
use Rattle.laws_one_answer.specs.MeantNodes.{NamesBuiltin, EachNamesBuiltin, MeantNodesMeanOne}
use Rattle.laws_one_answer.specs.MeantSigs.{MeantSigsAreOne}
use Rattle.laws_one_answer.specs.ModesMeanOne.{NodesAreOne, EachIsOne, ModeIsOne, EachModeIsOne, SigsAreOne}
use Rattle.laws_one_answer.proofs.MeantNodes.{named-over, each-named-over}
use Rattle.laws_one_answer.proofs.WrittenInsts.{bodies-named, ModeNames, mode-bodies-named, EachModeNames, AllModesName, AllRowsName, rows-named}

-- ---- a mode goes from one inst to one
module _ (l : Linked) where
  same-body : (m n : ModeTerm) (o : Option ModeTerm) → o ≡ Some m → o ≡ Some n → m ≡ n
  same-body m n o e f = (let z : Some m ≡ Some n = sym e ∙ f in cc)

  goes-once : (m : ModeTerm) (i j h k : InstTerm) → Goes l m i j → Goes l m h k → (i ≡ h) × (j ≡ k)
  goes-once m i j h k from_and_to from_and_to = (refl, refl)
  goes-once m i j h k (as_defined {d = d} {is = is} {m = n} e g) (as_defined {m = o} f x) =
      goes-once (mode_over is n) i j h k g (subst (λ (z : ModeTerm). Goes l (mode_over is z) h k) (sym (same-body n o _ e f)) x)

  mode-over-names : (is : InstTerms) (m : ModeTerm) → EachNamesBuiltin is → ModeNames m → ModeNames (mode_over is m)
  mode-over-names is (from_to i j) h n = (named-over is i h n.0, named-over is j h n.1)
  mode-over-names is (defined_mode d js) h n = each-named-over is js h n

  goes-named : (m : ModeTerm) (i j : InstTerm) → Goes l m i j → ModeNames m → NamesBuiltin i × NamesBuiltin j
  goes-named m i j from_and_to h = h
  goes-named m i j (as_defined {d = d} {is = is} {m = n} e g) h = goes-named (mode_over is n) i j g (mode-over-names is n h (mode-bodies-named l d n e))

  module _ (meant : MeantNodesMeanOne) (P : Program) (ds es : List PlainInstDef) where
    mode-one : (m : ModeTerm) (a b c d : ℕ) → ModeNames m → MeansMode l ds m a b → MeansMode l es m c d → NodesAreOne P ds es a c × NodesAreOne P ds es b d
    mode-one m a b c d names x y =
        let same = goes-once m x.from x.to y.from y.to x.goes y.goes in
        let named = goes-named m x.from x.to x.goes names in (
          meant (inst_bodies l) (bodies-named l) P ds es x.from a c named.0 x.is_first (subst (λ (i : InstTerm). IsMeant (inst_bodies l) es i c) (sym same.0) y.is_first),
          meant (inst_bodies l) (bodies-named l) P ds es x.to b d named.1 x.is_last (subst (λ (i : InstTerm). IsMeant (inst_bodies l) es i d) (sym same.1) y.is_last),
        )

    modes-one : (ms : List ModeTerm) (us bs cs ds' : List ℕ) → EachModeNames ms → EachMeans (MeansMode l ds) ms us bs → EachMeans (MeansMode l es) ms cs ds' → EachIsOne (NodesAreOne P ds es) us cs × EachIsOne (NodesAreOne P ds es) bs ds'
    modes-one [] [] [] [] [] n x y = (tt, tt)
    modes-one [] [] [] [] (d ∷ ds') n x y = absurd y
    modes-one [] [] [] (c ∷ cs) ds' n x y = absurd y
    modes-one [] [] (b ∷ bs) cs ds' n x y = absurd x
    modes-one [] (a ∷ us) bs cs ds' n x y = absurd x
    modes-one (m ∷ ms) [] bs cs ds' n x y = absurd x
    modes-one (m ∷ ms) (a ∷ us) [] cs ds' n x y = absurd x
    modes-one (m ∷ ms) (a ∷ us) (b ∷ bs) [] ds' n x y = absurd y
    modes-one (m ∷ ms) (a ∷ us) (b ∷ bs) (c ∷ cs) [] n x y = absurd y
    modes-one (m ∷ ms) (a ∷ us) (b ∷ bs) (c ∷ cs) (d ∷ ds') n x y =
        let o = mode-one m a b c d n.0 x.0 y.0 in
        let r = modes-one ms us bs cs ds' n.1 x.1 y.1 in
        ((o.0, r.0), (o.1, r.1))

    declared-one : (number : ℕ) (w : PlainMode) (m n : ModeDecl) → EachModeNames w.modes → IsDeclared (MeansMode l ds) number w m → IsDeclared (MeansMode l es) number w n → ModeIsOne (NodesAreOne P ds es) m n
    declared-one number w m n names x y =
        let r = modes-one w.modes m.first m.last n.first n.last names x.insts y.insts in
        record { proc = y.proc ∙ sym x.proc; first = r.0; last = r.1; det = y.det ∙ sym x.det; at = y.at ∙ sym x.at }

    all-declared : (op : Option Builtin) (n : ℕ) (ws : List PlainMode) (ms ns : List ModeDecl) → AllModesName ws → AreDeclared (MeansMode l ds) op n ws ms → AreDeclared (MeansMode l es) op n ws ns → EachModeIsOne (NodesAreOne P ds es) ms ns
    all-declared op n [] [] [] names x y = tt
    all-declared op n [] [] (k ∷ ks) names x y = absurd y
    all-declared op n [] (m ∷ ms) ks names x y = absurd x
    all-declared op n (w ∷ ws) [] ks names x y = absurd x
    all-declared op n (w ∷ ws) (m ∷ ms) [] names x y = absurd y
    all-declared op n (w ∷ ws) (m ∷ ms) (k ∷ ks) names x y = (declared-one (number_or_none op n) w m k names.0 x.0 y.0, all-declared op (next_number op n) ws ms ks names.1 x.1 y.1)

    rows-one : (op : ℕ → Option Builtin) (p n : ℕ) (rows : List (List PlainMode)) (ss ts : List Sig) → AllRowsName rows → AreSignatures (MeansMode l ds) op p n rows ss → AreSignatures (MeansMode l es) op p n rows ts → SigsAreOne (NodesAreOne P ds es) ss ts
    rows-one op p n [] [] [] names x y = tt
    rows-one op p n [] [] (t ∷ ts) names x y = absurd y
    rows-one op p n [] (s ∷ ss) ts names x y = absurd x
    rows-one op p n (ws ∷ rows) [] ts names x y = absurd x
    rows-one op p n (ws ∷ rows) (s ∷ ss) [] names x y = absurd y
    rows-one op p n (ws ∷ rows) (s ∷ ss) (t ∷ ts) names x y =
        (y.0 ∙ sym x.0, all-declared (op p) n ws s.modes t.modes names.0 x.1 y.1, rows-one op (suc p) (next_behind (op p) n ws) rows ss ts names.1 x.2 y.2)

    -- ---- a query's
    is-itself : (fs : List PlainInstDef) (n : ℕ) → IsMeant (inst_bodies l) fs (inst_node n) n
    is-itself fs n G nodes h d zero = tt
    is-itself fs n G nodes h d (suc k) = inl at_that

    query-one : (n many : ℕ) → NodesAreOne P ds es n n → EachIsOne (NodesAreOne P ds es) (replicate many n) (replicate many n)
    query-one n zero h = tt
    query-one n (suc k) h = (h, query-one n k h)

    asked-one : (p k n : ℕ) (d : Option Det) (place : Place) → SigsAreOne (NodesAreOne P ds es) (query_signature p k n d place ∷ []) (query_signature p k n d place ∷ [])
    asked-one p k n d place = (
      refl,
      (
        record {
          proc = refl;
          first = query-one 0 n (meant (inst_bodies l) (bodies-named l) P ds es (inst_node 0) 0 0 (omega arith) (is-itself ds 0) (is-itself es 0));
          last = query-one 1 n (meant (inst_bodies l) (bodies-named l) P ds es (inst_node 1) 1 1 (omega arith) (is-itself ds 1) (is-itself es 1));
          det = refl;
          at = refl;
        },
        tt,
      ),
      tt,
    )

    with-more : (ss ts us vs : List Sig) → SigsAreOne (NodesAreOne P ds es) ss ts → SigsAreOne (NodesAreOne P ds es) us vs → SigsAreOne (NodesAreOne P ds es) (ss ++ us) (ts ++ vs)
    with-more [] [] us vs h k = k
    with-more [] (t ∷ ts) us vs h k = absurd h
    with-more (s ∷ ss) [] us vs h k = absurd h
    with-more (s ∷ ss) (t ∷ ts) us vs h k = (h.0, h.1, with-more ss ts us vs h.2 k)

pub meant-sigs-are-one : MeantNodesMeanOne → MeantSigsAreOne
meant-sigs-are-one meant l files P ds es builtin sigs others x y =
    let one = rows-one l meant P ds es builtin 0 0 (declared_modes l files) sigs others (rows-named l files) x y in
    (one, (λ p k n d place. with-more l meant P ds es sigs others _ _ one (asked-one l meant P ds es p k n d place)))
