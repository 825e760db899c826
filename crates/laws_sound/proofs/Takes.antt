-- The first pass at deconstructions.
use Rattle.std.proofs.Common.{◌≡◌, ◌≢◌, ◌⊎◌, inl, inr, ℕ, List, [], ◌∷◌, map, Bool, true, false, cond, not, nat_eq, ◌||◌, ◌&&◌, Some, None, refl, sym, ap, ◌∙◌, subst, ⊎_elim}
use Rattle.std.specs.Cmp.Lexicographic.{pointwise, bytes_decides}
use Rattle.std.specs.List.{list_all}
use Rattle.std.proofs.lemmas.Bool.{eqb-true, eq-eqb, or_parts, not-false, and_parts, and_from, or_left, or_right}
use Rattle.mc_program.specs.Values.{Val, int, char, str, con, state, Vals, no_vals, listed}
use Rattle.mc_program.specs.Programs.{TypeTerm, union_type, TypeTerms, Source}
use Rattle.mc_model.specs.Types.{instance_of, instances_of, OfType}
use Rattle.mc_model.specs.Insts.{Listed, InstNode, free, ground, unique, dead, bound, Lists, AllowsSymbol, Within, AllWithin}
use Rattle.mc_model.specs.Lists.{In}
use Rattle.mc_model.specs.EventList.{End, of_option}
use Rattle.mc_model.specs.Stream.{Bindings, unify, is_bound, made_items}
use Rattle.mc_source.specs.Determinism.{Determinism}
use Rattle.mc_accepted.specs.Ordered.{Insts, also, take_all, IsSymbolOver}
use Rattle.mc_accepted.specs.Determined.{Known, tested, knows_symbol, lists_name, allows_name, allowed_in, is_alone, take_determinism}
use Rattle.mc_accepted.specs.Typing.{constructor_types}
use Rattle.mc_model.specs.Good.{System, TypeChoice, BoundAs}
use Rattle.mc_accepted.specs.ProperTypes.{Parameters, ProperType}
use Rattle.mc_accepted.specs.Fits.{Fits}
use Rattle.laws_sound.specs.code.Passes.{BindsOnly, TypedAt, Sound, Knows}
use Rattle.mc_source.specs.declared.det.Most.TheVariants.{Zero, One}
use Rattle.laws_sound.proofs.Binds
use Rattle.laws_sound.proofs.Binds.{true_not_false}
use Rattle.laws_sound.proofs.Typed
use Rattle.laws_sound.proofs.Atoms
use Rattle.laws_sound.proofs.Atoms.{union_view, unify_binds, binds_more}
use Rattle.laws_language.proofs.Inclusions.{over_allows, allows_over, over_one}
use Rattle.laws_sound.proofs.TypeInstances.{con_arguments}

-- a node that allows a constructor allows it by its name
lists_named : (P : Source) (ls : List Listed) (s : ℕ) (Q : List ℕ → Type 0) → Lists P ls s Q → lists_name ls (P.symbols s).name ≡ true
lists_named P [] s Q h = absurd h
lists_named P (l ∷ ls) s Q h =
    ⊎_elim
    (λ a. or_left (pointwise nat_eq l.name (P.symbols s).name.bytes && nat_eq l.arity (P.symbols s).name.arity) (lists_name ls (P.symbols s).name)
    (and_from (pointwise nat_eq l.name (P.symbols s).name.bytes) (nat_eq l.arity (P.symbols s).name.arity) ((bytes_decides l.name (P.symbols s).name.bytes).1 a.0) (eq-eqb l.arity (P.symbols s).name.arity a.1)))
    (λ a. or_right (pointwise nat_eq l.name (P.symbols s).name.bytes && nat_eq l.arity (P.symbols s).name.arity) (lists_name ls (P.symbols s).name) (lists_named P ls s Q a)) h

pub allows_named : (P : Source) (N : InstNode) (i s : ℕ) (Q : List ℕ → Type 0) → AllowsSymbol P N i s Q → allows_name N (P.symbols s).name ≡ true
allows_named P free i s Q h = absurd h
allows_named P ground i s Q h = refl
allows_named P unique i s Q h = refl
allows_named P dead i s Q h = refl
allows_named P (bound ls) i s Q h = lists_named P ls s Q h

-- a test that all pass
pub all_pass : (f : ℕ → Bool) (ss : List ℕ) (g : ℕ) → list_all f ss ≡ true → In g ss → f g ≡ true
all_pass f [] g a i = absurd i
all_pass f (s ∷ ss) g a i = let p = and_parts (f s) (list_all f ss) a in ⊎_elim (λ q. subst (λ k. f k ≡ true) (sym q) p.0) (λ j. all_pass f ss g p.1 j) i

cond_in : (t : Bool) (g s : ℕ) (ss : List ℕ) → (t ≡ true) ⊎ (g ≡ s → ⊥) → (g ≡ s) ⊎ In g ss → In g (cond t (s ∷ ss) ss)
cond_in true g s ss c h = h
cond_in false g s ss c h = ⊎_elim (λ q. ⊎_elim (λ f. absurd (true_not_false (sym f))) (λ n. absurd (n q)) c) (λ j. j) h

cond_in_right : (t : Bool) (g s : ℕ) (zs : List ℕ) → In g zs → In g (cond t (s ∷ zs) zs)
cond_in_right true g s zs j = inr j
cond_in_right false g s zs j = j

no_con : (s : ℕ) (vs : Vals) (P : Source) (w : Val) (u : ℕ) (ts : TypeTerms) → OfType P w (union_type u ts) → (g : ℕ) × (vs : Vals) × (w ≡ con g vs)
no_con s vs P (int n) u ts o = absurd (true_not_false (sym o.1))
no_con s vs P (char n) u ts o = absurd (true_not_false (sym o.1))
no_con s vs P (str n) u ts o = absurd (true_not_false (sym o.1))
no_con s vs P (state n k) u ts o = absurd (true_not_false (sym o.1))
no_con s vs P (con g ws) u ts o = (g, ws, refl)

pub con_symbol : (f g : ℕ) (vs ws : Vals) → con f vs ≡ con g ws → f ≡ g
con_symbol f g vs ws e = cc

module _ (S : System) (D : Parameters) (F : Fits S D) (θ : TypeChoice) (T : ℕ → TypeTerm) (proper : (x : ℕ) → ProperType D (T x)) where
  in_allowed : (i : ℕ) (ss : List ℕ) (g : ℕ) → allows_name (S.insts i) (S.world.source.symbols g).name ≡ true → In g ss → In g (Rattle.mc_accepted.specs.Determined.allowed_of S T i ss)
  in_allowed i [] g a h = h
  in_allowed i (s ∷ ss) g a h =
      ⊎_elim
      (λ q. cond_in (allows_name (S.insts i) (S.world.source.symbols s).name) g s (Rattle.mc_accepted.specs.Determined.allowed_of S T i ss) (inl (subst (λ k. allows_name (S.insts i) (S.world.source.symbols k).name ≡ true) q a)) (inl q))
      (λ j. cond_in_right (allows_name (S.insts i) (S.world.source.symbols s).name) g s (Rattle.mc_accepted.specs.Determined.allowed_of S T i ss) (in_allowed i ss g a j)) h

  -- a value of a union type has a constructor that the type and its inst allow
  pub allowed_con : (u : ℕ) (ts : TypeTerms) (i : ℕ) (w : Val) → ProperType D (union_type u ts) → OfType S.world.source w (union_type u (instances_of θ ts)) → Within S.world.source S.insts w i →
      (g : ℕ) × (vs : Vals) × (w ≡ con g vs) × In g (Rattle.mc_accepted.specs.Determined.allowed_of S T i (S.world.source.symbols_of u))
  allowed_con u ts i w p o h =
      let r = no_con 0 no_vals S.world.source w u (instances_of θ ts) o in
      let o' = subst (λ k. OfType S.world.source k (union_type u (instances_of θ ts))) r.2 o in
      let h' = subst (λ k. Within S.world.source S.insts k i) r.2 h in
      let z = con_arguments S D F r.0 r.1 u ts θ p o' in
      (r.0, r.1, r.2, in_allowed i (S.world.source.symbols_of u) r.0 (allows_named S.world.source (S.insts i) i r.0 (AllWithin S.world.source S.insts r.1) h') z.4)

  alone_all : (ss : List ℕ) (s g : ℕ) → is_alone S T s (Some ss) ≡ true → In g ss → nat_eq g s ≡ true
  alone_all [] s g a i = absurd i
  alone_all (f ∷ fs) s g a i = all_pass (λ k. nat_eq k s) (f ∷ fs) g a i

  alone_symbol : (s : ℕ) (t : TypeTerm) (us : List TypeTerm) (i : ℕ) (w : Val) → ProperType D t → constructor_types S.world.source s t ≡ Some us → OfType S.world.source w (instance_of θ t) → Within S.world.source S.insts w i → is_alone S T s (allowed_in S T t i) ≡ true → (vs : Vals) × (w ≡ con s vs)
  alone_symbol s t us i w p c o h a =
      let r = union_view S.world.source s t us c in
      let z = allowed_con r.0 r.1 i w (subst (λ k. ProperType D k) r.2 p) (subst (λ k. OfType S.world.source w (instance_of θ k)) r.2 o) h in
      let q = alone_all (Rattle.mc_accepted.specs.Determined.allowed_of S T i (S.world.source.symbols_of r.0)) s z.0 (subst (λ k. is_alone S T s (allowed_in S T k i) ≡ true) r.2 a) z.3 in
      (z.1, z.2 ∙ ap (λ k. con k z.1) (eqb-true z.0 s q))

  module _ (known : Known) (L : List ℕ) where
    sure_symbol : (b : Insts) (e : Bindings) (x s : ℕ) (ys : List ℕ) (us : List TypeTerm) (w : Val) → constructor_types S.world.source s (T x) ≡ Some us → e x ≡ Some w → BoundAs S θ (b x) (T x) (Some w) → Knows known e → (take_determinism S T b known x s ys).can_fail ≡ false →
        (tested ys (λ y. is_bound (b y)) ≡ false) × ((vs : Vals) × (w ≡ con s vs))
    sure_symbol b e x s ys us w c q h k f =
        let p = or_parts (tested ys (λ y. is_bound (b y))) (not (is_alone S T s (allowed_in S T (T x) (b x)) || knows_symbol (known x) s)) f in
        (p.0, on (is_alone S T s (allowed_in S T (T x) (b x))) refl (not-false (is_alone S T s (allowed_in S T (T x) (b x)) || knows_symbol (known x) s) p.1))
      where
        on : (t : Bool) → is_alone S T s (allowed_in S T (T x) (b x)) ≡ t → (t || knows_symbol (known x) s) ≡ true → (vs : Vals) × (w ≡ con s vs)
        on true a z = alone_symbol s (T x) us (b x) w (proper x) c h.1 h.2 a
        on false a z = Atoms.known_symbol S D F θ T proper known L e x s w q k z

    pub take_sound : (b : Insts) (e : Bindings) (x s i : ℕ) (ys is : List ℕ) → b x ≢ 0 → AllowsSymbol S.world.source (S.insts (b x)) (b x) s (λ js. js ≡ is) → IsSymbolOver S T i s is → constructor_types S.world.source s (T x) ≡ Some (map T ys) → TypedAt S θ T (x ∷ ys) b e → TypedAt S θ T L b e →
        Sound S θ T known L (x ∷ ys) e (Some (take_all ys is (also x i b))) (take_determinism S T b known x s ys) (made_items x s ys e (e x))
    take_sound b e x s i ys is n a io c u l =
        let w = Typed.bound_at S D F θ (b x) (T x) (e x) n (u x (inl refl)) in
        subst (λ o. Sound S θ T known L (x ∷ ys) e (Some (take_all ys is (also x i b))) (take_determinism S T b known x s ys) (made_items x s ys e o)) (sym w.1) (on w.0 w.1 w.2)
      where
        d : Determinism
        d = take_determinism S T b known x s ys

        one : (t : Bool) → t ≡ true → cond (not t) Zero One ≡ One
        one true e = refl
        one false e = absurd (true_not_false (sym e))

        not_con : (w : Val) → e x ≡ Some w → BoundAs S θ (b x) (T x) (Some w) → ((vs : Vals) → w ≡ con s vs → ⊥) → Sound S θ T known L (x ∷ ys) e (Some (take_all ys is (also x i b))) (take_determinism S T b known x s ys) End
        not_con w q h f = Atoms.sound_none S D F θ T proper known L (x ∷ ys) e (Some (take_all ys is (also x i b))) (take_determinism S T b known x s ys) (λ k z. let r = sure_symbol b e x s ys (map T ys) w c q h k z in f r.1.0 r.1.1)

        same : (g : ℕ) (vs : Vals) (t : Bool) → nat_eq s g ≡ t → e x ≡ Some (con g vs) → BoundAs S θ (b x) (T x) (Some (con g vs)) → Sound S θ T known L (x ∷ ys) e (Some (take_all ys is (also x i b))) (take_determinism S T b known x s ys) (of_option (cond t (unify ys (map Some (listed vs)) e) None))
        same g vs false t q h = not_con (con g vs) q h (λ us z. true_not_false (sym (eq-eqb s g (sym (con_symbol g s vs us z))) ∙ t))
        same g vs true t q h =
            let gs = eqb-true s g t in
            let q' : e x ≡ Some (con s vs) = q ∙ ap (λ k. Some (con k vs)) (sym gs) in
            let h' : BoundAs S θ (b x) (T x) (Some (con s vs)) = subst (λ k. BoundAs S θ (b x) (T x) (Some (con k vs))) (sym gs) h in
            let r = allows_over S.world.source (S.insts (b x)) (b x) s (AllWithin S.world.source S.insts vs) h'.2 in
            let ws = subst (λ ks. AllWithin S.world.source S.insts vs ks) (over_one S.world.source (S.insts (b x)) (b x) s r.0 is (F.insts.proper (b x)) r.1 a) r.2 in
            let os = Atoms.type_con S D F θ T proper known L s vs (T x) (map T ys) (proper x) c h'.1 in
            let xb = Atoms.symbol_bound S D F θ T proper known L i s is vs (T x) io h'.1 ws in
            Atoms.sound_option S D F θ T proper known L (x ∷ ys) e (take_all ys is (also x i b)) (take_determinism S T b known x s ys) (unify ys (map Some (listed vs)) e) (one (allows_name (S.insts (b x)) (S.world.source.symbols s).name) (allows_named S.world.source (S.insts (b x)) (b x) s (λ js. js ≡ is) a))
            (Binds.unify_extends ys (map Some (listed vs)) e)
            (Binds.each_weaker (λ a. BindsOnly ys e a) (λ a. BindsOnly (x ∷ ys) e a) (unify ys (map Some (listed vs)) e) (λ a z. binds_more ys (x ∷ ys) e a (λ y j. inr j) z) (unify_binds ys (map Some (listed vs)) e))
            (Typed.unify_take S D F θ T proper L ys is vs (also x i b) e (Typed.allows_free S D F (b x) s is n a) os ws (Typed.known_typed S D F θ T proper L b e x i (con s vs) q' xb l) (Typed.known_typed S D F θ T proper ys b e x i (con s vs) q' xb (λ y j. u y (inr j))))
            (λ k z. Typed.take_succeeds S D F θ T proper ys vs [] (λ y. is_bound (b y)) e os (sure_symbol b e x s ys (map T ys) (con s vs) c q' h' k z).0 (λ y j. Typed.typed_flat S D F θ T proper ys b e (λ y j. u y (inr j)) y j))

        on : (w : Val) → e x ≡ Some w → BoundAs S θ (b x) (T x) (Some w) → Sound S θ T known L (x ∷ ys) e (Some (take_all ys is (also x i b))) (take_determinism S T b known x s ys) (made_items x s ys e (Some w))
        on (int m) q h = not_con (int m) q h (λ vs z. no m vs z)
          where
            no : (m : Rattle.std.specs.Prelude.ℤ) (vs : Vals) → int m ≡ con s vs → ⊥
            no m vs z = cc
        on (char m) q h = not_con (char m) q h (λ vs z. no m vs z)
          where
            no : (m : ℕ) (vs : Vals) → char m ≡ con s vs → ⊥
            no m vs z = cc
        on (str m) q h = not_con (str m) q h (λ vs z. no m vs z)
          where
            no : (m : List ℕ) (vs : Vals) → str m ≡ con s vs → ⊥
            no m vs z = cc
        on (state m k) q h = not_con (state m k) q h (λ vs z. no m k vs z)
          where
            no : (m : List ℕ) (k : ℕ) (vs : Vals) → state m k ≡ con s vs → ⊥
            no m k vs z = cc
        on (con g vs) q h = same g vs (nat_eq s g) refl q h

    pub take_never_sound : (b : Insts) (e : Bindings) (x s : ℕ) (ys : List ℕ) → b x ≢ 0 → (AllowsSymbol S.world.source (S.insts (b x)) (b x) s (λ js. Unit {0}) → ⊥) → constructor_types S.world.source s (T x) ≡ Some (map T ys) → TypedAt S θ T (x ∷ ys) b e →
        Sound S θ T known L (x ∷ ys) e None (take_determinism S T b known x s ys) (made_items x s ys e (e x))
    take_never_sound b e x s ys n a c u =
        let w = Typed.bound_at S D F θ (b x) (T x) (e x) n (u x (inl refl)) in
        subst (λ o. Sound S θ T known L (x ∷ ys) e None (take_determinism S T b known x s ys) (made_items x s ys e o)) (sym w.1)
        (on w.0 (λ vs z. let h = subst (λ k. BoundAs S θ (b x) (T x) (Some k)) z w.2 in let r = allows_over S.world.source (S.insts (b x)) (b x) s (AllWithin S.world.source S.insts vs) h.2 in a (over_allows S.world.source (S.insts (b x)) (b x) s (λ js. Unit {0}) r.0 r.1 tt))
        (λ k z. let h = (sure_symbol b e x s ys (map T ys) w.0 c w.1 w.2 k z).1 in h))
      where
        not_con : (w : Val) → ((vs : Vals) → w ≡ con s vs → ⊥) → (Knows known e → (take_determinism S T b known x s ys).can_fail ≡ false → (vs : Vals) × (w ≡ con s vs)) → Sound S θ T known L (x ∷ ys) e None (take_determinism S T b known x s ys) End
        not_con w f k = Atoms.sound_none S D F θ T proper known L (x ∷ ys) e None (take_determinism S T b known x s ys) (λ z y. let r = k z y in f r.0 r.1)

        same : (g : ℕ) (vs : Vals) (t : Bool) → nat_eq s g ≡ t → ((vs' : Vals) → con g vs ≡ con s vs' → ⊥) → (Knows known e → (take_determinism S T b known x s ys).can_fail ≡ false → (vs' : Vals) × (con g vs ≡ con s vs')) → Sound S θ T known L (x ∷ ys) e None (take_determinism S T b known x s ys) (of_option (cond t (unify ys (map Some (listed vs)) e) None))
        same g vs false t f k = not_con (con g vs) f k
        same g vs true t f k = absurd (f vs (ap (λ j. con j vs) (sym (eqb-true s g t))))

        on : (w : Val) → ((vs : Vals) → w ≡ con s vs → ⊥) → (Knows known e → (take_determinism S T b known x s ys).can_fail ≡ false → (vs : Vals) × (w ≡ con s vs)) → Sound S θ T known L (x ∷ ys) e None (take_determinism S T b known x s ys) (made_items x s ys e (Some w))
        on (int m) f k = not_con (int m) f k
        on (char m) f k = not_con (char m) f k
        on (str m) f k = not_con (str m) f k
        on (state m j) f k = not_con (state m j) f k
        on (con g vs) f k = same g vs (nat_eq s g) refl f k
