-- What each form of goal does to the world, by its lists.
use Rattle.std.proofs.Common.{◌≡◌, ℕ, zero, suc, ◌≤◌, List, [], ◌++◌, Bool, true, false, Some, None, refl, sym, ap, ◌∙◌, subst, arith, append_assoc, append-nil}
use Rattle.mc_model.specs.EventList.{Items, End, Stuck, Stopped, Answer, Called, Wrote, Read, append, bind, choose, first, negate, cut, Each, Ends, Succeeds, answers, written}
use Rattle.laws_sound.specs.code.Moves.{Never, Calm, World, Behind, Flow, Moves}

no_answer : (n : ℕ) → (◌≡◌ {A = ℕ} (suc n) 0) → ⊥
no_answer n e = omega arith

module _ {A : Type 0} where
  -- a list that answers where it ends, and doesn't answer
  pub never_of : (xs : Items A) → Succeeds xs → answers xs ≡ 0 → Never xs
  never_of End s n = s
  never_of Stuck s n = tt
  never_of (Stopped h) s n = tt
  never_of (Answer a xs) s n = no_answer (answers xs) n
  never_of (Called c xs) s n = never_of xs s n
  never_of (Wrote t xs) s n = never_of xs s n
  never_of (Read k xs) s n = never_of xs s n

  pub never_append : (xs ys : Items A) → Never xs → Never (append xs ys)
  never_append End ys h = absurd h
  never_append Stuck ys h = tt
  never_append (Stopped w) ys h = tt
  never_append (Answer a xs) ys h = absurd h
  never_append (Called c xs) ys h = never_append xs ys h
  never_append (Wrote t xs) ys h = never_append xs ys h
  never_append (Read k xs) ys h = never_append xs ys h

  pub never_first : (xs : Items A) → Never xs → Never (first xs)
  never_first End h = h
  never_first Stuck h = h
  never_first (Stopped w) h = h
  never_first (Answer a xs) h = absurd h
  never_first (Called c xs) h = never_first xs h
  never_first (Wrote t xs) h = never_first xs h
  never_first (Read k xs) h = never_first xs h

  pub never_cut : (n : ℕ) (xs : Items A) → Never xs → Never (cut n xs)
  never_cut n End h = h
  never_cut n Stuck h = h
  never_cut n (Stopped w) h = h
  never_cut n (Answer a xs) h = absurd h
  never_cut zero (Called c xs) h = tt
  never_cut (suc n) (Called c xs) h = never_cut n xs h
  never_cut n (Wrote t xs) h = never_cut n xs h
  never_cut n (Read k xs) h = never_cut n xs h

  pub never_calm : (P : A → Type 0) (xs : Items A) → Never xs → Calm P xs
  never_calm P End h = absurd h
  never_calm P Stuck h = tt
  never_calm P (Stopped w) h = tt
  never_calm P (Answer a xs) h = absurd h
  never_calm P (Called c xs) h = never_calm P xs h
  never_calm P (Wrote t xs) h = h
  never_calm P (Read k xs) h = h

  pub never_flow : (Q : World → A → Type 0) (one : Bool) (W : World) (xs : Items A) → Never xs → Flow Q one W xs
  never_flow Q one W End h = tt
  never_flow Q one W Stuck h = tt
  never_flow Q one W (Stopped w) h = tt
  never_flow Q one W (Answer a xs) h = absurd h
  never_flow Q one W (Called c xs) h = never_flow Q one W xs h
  never_flow Q one None (Wrote t xs) h = h
  never_flow Q one (Some w) (Wrote t xs) h = never_flow Q one (Some (w ++ t)) xs h
  never_flow Q one None (Read k xs) h = h
  never_flow Q one (Some w) (Read k xs) h = never_flow Q one (Some w) xs h

  pub calm_map : (P R : A → Type 0) → ((a : A) → P a → R a) → (xs : Items A) → Calm P xs → Calm R xs
  calm_map P R f End h = tt
  calm_map P R f Stuck h = tt
  calm_map P R f (Stopped w) h = tt
  calm_map P R f (Answer a xs) h = (f a h.0, calm_map P R f xs h.1)
  calm_map P R f (Called c xs) h = calm_map P R f xs h
  calm_map P R f (Wrote t xs) h = h
  calm_map P R f (Read k xs) h = h

  -- with what holds of each answer
  pub calm_each : (I P R : A → Type 0) → ((a : A) → I a → P a → R a) → (xs : Items A) → Each I xs → Calm P xs → Calm R xs
  calm_each I P R f End i h = tt
  calm_each I P R f Stuck i h = tt
  calm_each I P R f (Stopped w) i h = tt
  calm_each I P R f (Answer a xs) i h = (f a i.0 h.0, calm_each I P R f xs i.1 h.1)
  calm_each I P R f (Called c xs) i h = calm_each I P R f xs i h
  calm_each I P R f (Wrote t xs) i h = h
  calm_each I P R f (Read k xs) i h = h

  pub behind_each : (one : Bool) (I P R : A → Type 0) → ((a : A) → I a → P a → R a) → (xs : Items A) → Each I xs → Behind one P xs → Behind one R xs
  behind_each true I P R f xs i h = tt
  behind_each false I P R f xs i h = calm_each I P R f xs i h

  pub flow_each : (I : A → Type 0) (Q R : World → A → Type 0) → ((W : World) (a : A) → I a → Q W a → R W a) → (one : Bool) (W : World) (xs : Items A) → Each I xs → Flow Q one W xs → Flow R one W xs
  flow_each I Q R f one W End i h = tt
  flow_each I Q R f one W Stuck i h = tt
  flow_each I Q R f one W (Stopped w) i h = tt
  flow_each I Q R f one W (Answer a xs) i h = (f W a i.0 h.0, behind_each one I (Q W) (R W) (f W) xs i.1 h.1)
  flow_each I Q R f one W (Called c xs) i h = flow_each I Q R f one W xs i h
  flow_each I Q R f one None (Wrote t xs) i h = h
  flow_each I Q R f one (Some w) (Wrote t xs) i h = flow_each I Q R f one (Some (w ++ t)) xs i h
  flow_each I Q R f one None (Read k xs) i h = h
  flow_each I Q R f one (Some w) (Read k xs) i h = flow_each I Q R f one (Some w) xs i h

  pub moves_each : (I : A → Type 0) (Q R : World → A → Type 0) → ((W : World) (a : A) → I a → Q W a → R W a) → (io one : Bool) (W : World) (xs : Items A) → Each I xs → Moves Q io one W xs → Moves R io one W xs
  moves_each I Q R f false one W xs i h = calm_each I (Q W) (R W) (f W) xs i h
  moves_each I Q R f true one W xs i h = flow_each I Q R f one W xs i h

  pub calm_behind : (one : Bool) (P : A → Type 0) (xs : Items A) → Calm P xs → Behind one P xs
  calm_behind true P xs h = tt
  calm_behind false P xs h = h

  pub calm_flow : (Q : World → A → Type 0) (one : Bool) (W : World) (xs : Items A) → Calm (Q W) xs → Flow Q one W xs
  calm_flow Q one W End h = tt
  calm_flow Q one W Stuck h = tt
  calm_flow Q one W (Stopped w) h = tt
  calm_flow Q one W (Answer a xs) h = (h.0, calm_behind one (Q W) xs h.1)
  calm_flow Q one W (Called c xs) h = calm_flow Q one W xs h
  calm_flow Q one None (Wrote t xs) h = h
  calm_flow Q one (Some w) (Wrote t xs) h = never_flow Q one (Some (w ++ t)) xs h
  calm_flow Q one None (Read k xs) h = h
  calm_flow Q one (Some w) (Read k xs) h = never_flow Q one (Some w) xs h

  pub moves_flow : (Q : World → A → Type 0) (io one : Bool) (W : World) (xs : Items A) → Moves Q io one W xs → Flow Q one W xs
  moves_flow Q false one W xs h = calm_flow Q one W xs h
  moves_flow Q true one W xs h = h

  -- where all answers count, they count where one does
  pub flow_some : (Q : World → A → Type 0) (one : Bool) (W : World) (xs : Items A) → Flow Q false W xs → Flow Q one W xs
  flow_some Q true W End h = tt
  flow_some Q true W Stuck h = tt
  flow_some Q true W (Stopped w) h = tt
  flow_some Q true W (Answer a xs) h = (h.0, tt)
  flow_some Q true W (Called c xs) h = flow_some Q true W xs h
  flow_some Q true None (Wrote t xs) h = h
  flow_some Q true (Some w) (Wrote t xs) h = flow_some Q true (Some (w ++ t)) xs h
  flow_some Q true None (Read k xs) h = h
  flow_some Q true (Some w) (Read k xs) h = flow_some Q true (Some w) xs h
  flow_some Q false W xs h = h

  pub calm_append : (P : A → Type 0) (xs ys : Items A) → Calm P xs → Calm P ys → Calm P (append xs ys)
  calm_append P End ys h k = k
  calm_append P Stuck ys h k = tt
  calm_append P (Stopped w) ys h k = tt
  calm_append P (Answer a xs) ys h k = (h.0, calm_append P xs ys h.1 k)
  calm_append P (Called c xs) ys h k = calm_append P xs ys h k
  calm_append P (Wrote t xs) ys h k = never_append xs ys h
  calm_append P (Read r xs) ys h k = never_append xs ys h

  pub behind_append : (one : Bool) (P : A → Type 0) (xs ys : Items A) → Behind one P xs → Behind one P ys → Behind one P (append xs ys)
  behind_append true P xs ys h k = tt
  behind_append false P xs ys h k = calm_append P xs ys h k

  -- a list that answers where it ends, before one that is calm where all answers count. (What is behind it is said for
  -- every world: a list that writes nothing is calm from any.)
  pub flow_append : (Q : World → A → Type 0) (one : Bool) (W : World) (xs ys : Items A) → Flow Q one W xs → Succeeds xs → ((V : World) → Behind one (Q V) ys) → Flow Q one W (append xs ys)
  flow_append Q one W End ys h s q = absurd s
  flow_append Q one W Stuck ys h s q = tt
  flow_append Q one W (Stopped w) ys h s q = tt
  flow_append Q one W (Answer a xs) ys h s q = (h.0, behind_append one (Q W) xs ys h.1 (q W))
  flow_append Q one W (Called c xs) ys h s q = flow_append Q one W xs ys h s q
  flow_append Q one None (Wrote t xs) ys h s q = never_append xs ys h
  flow_append Q one (Some w) (Wrote t xs) ys h s q = flow_append Q one (Some (w ++ t)) xs ys h s q
  flow_append Q one None (Read k xs) ys h s q = never_append xs ys h
  flow_append Q one (Some w) (Read k xs) ys h s q = flow_append Q one (Some w) xs ys h s q

  -- a calm list without answers, before one that flows
  pub flow_after : (P : A → Type 0) (Q : World → A → Type 0) (one : Bool) (W : World) (xs ys : Items A) → Calm P xs → answers xs ≡ 0 → Flow Q one W ys → Flow Q one W (append xs ys)
  flow_after P Q one W End ys h n k = k
  flow_after P Q one W Stuck ys h n k = tt
  flow_after P Q one W (Stopped w) ys h n k = tt
  flow_after P Q one W (Answer a xs) ys h n k = absurd (no_answer (answers xs) n)
  flow_after P Q one W (Called c xs) ys h n k = flow_after P Q one W xs ys h n k
  flow_after P Q one W (Wrote t xs) ys h n k = never_flow Q one W (append (Wrote t xs) ys) (never_append xs ys h)
  flow_after P Q one W (Read r xs) ys h n k = never_flow Q one W (append (Read r xs) ys) (never_append xs ys h)

  pub calm_first : (P : A → Type 0) (xs : Items A) → Calm P xs → Calm P (first xs)
  calm_first P End h = tt
  calm_first P Stuck h = tt
  calm_first P (Stopped w) h = tt
  calm_first P (Answer a xs) h = (h.0, tt)
  calm_first P (Called c xs) h = calm_first P xs h
  calm_first P (Wrote t xs) h = never_first xs h
  calm_first P (Read r xs) h = never_first xs h

  -- the first answer alone
  pub flow_first : (Q : World → A → Type 0) (one all : Bool) (W : World) (xs : Items A) → Flow Q one W xs → Flow Q all W (first xs)
  flow_first Q one all W End h = tt
  flow_first Q one all W Stuck h = tt
  flow_first Q one all W (Stopped w) h = tt
  flow_first Q one all W (Answer a xs) h = (h.0, calm_behind all (Q W) End tt)
  flow_first Q one all W (Called c xs) h = flow_first Q one all W xs h
  flow_first Q one all None (Wrote t xs) h = never_first xs h
  flow_first Q one all (Some w) (Wrote t xs) h = flow_first Q one all (Some (w ++ t)) xs h
  flow_first Q one all None (Read k xs) h = never_first xs h
  flow_first Q one all (Some w) (Read k xs) h = flow_first Q one all (Some w) xs h

  pub calm_cut : (P : A → Type 0) (n : ℕ) (xs : Items A) → Calm P xs → Calm P (cut n xs)
  calm_cut P n End h = tt
  calm_cut P n Stuck h = tt
  calm_cut P n (Stopped w) h = tt
  calm_cut P n (Answer a xs) h = (h.0, calm_cut P n xs h.1)
  calm_cut P zero (Called c xs) h = tt
  calm_cut P (suc n) (Called c xs) h = calm_cut P n xs h
  calm_cut P n (Wrote t xs) h = never_cut n xs h
  calm_cut P n (Read r xs) h = never_cut n xs h

  pub flow_cut : (Q : World → A → Type 0) (W : World) (n : ℕ) (xs : Items A) → Flow Q false W xs → Flow Q false W (cut n xs)
  flow_cut Q W n End h = tt
  flow_cut Q W n Stuck h = tt
  flow_cut Q W n (Stopped w) h = tt
  flow_cut Q W n (Answer a xs) h = (h.0, calm_cut (Q W) n xs h.1)
  flow_cut Q W zero (Called c xs) h = tt
  flow_cut Q W (suc n) (Called c xs) h = flow_cut Q W n xs h
  flow_cut Q None n (Wrote t xs) h = never_cut n xs h
  flow_cut Q (Some w) n (Wrote t xs) h = flow_cut Q (Some (w ++ t)) n xs h
  flow_cut Q None n (Read k xs) h = never_cut n xs h
  flow_cut Q (Some w) n (Read k xs) h = flow_cut Q (Some w) n xs h

  -- what never answers or ends doesn't end
  never_ends : (xs : Items A) → Never xs → Ends xs → ⊥
  never_ends End h e = h
  never_ends Stuck h e = e
  never_ends (Stopped w) h e = e
  never_ends (Answer a xs) h e = h
  never_ends (Called c xs) h e = never_ends xs h e
  never_ends (Wrote t xs) h e = never_ends xs h e
  never_ends (Read k xs) h e = never_ends xs h e

  calm_silent : (P : A → Type 0) (xs : Items A) → Calm P xs → Ends xs → (written xs ≡ []) × Each P xs
  calm_silent P End h e = (refl, tt)
  calm_silent P Stuck h e = absurd e
  calm_silent P (Stopped w) h e = absurd e
  calm_silent P (Answer a xs) h e = let r = calm_silent P xs h.1 e in (r.0, (h.0, r.1))
  calm_silent P (Called c xs) h e = calm_silent P xs h e
  calm_silent P (Wrote t xs) h e = absurd (never_ends xs h e)
  calm_silent P (Read k xs) h e = absurd (never_ends xs h e)

  -- where a list that flows ends, each answer is as the world says with all that was written
  pub flow_says : (Q : World → A → Type 0) (w : List ℕ) (xs : Items A) → Flow Q false (Some w) xs → Ends xs → Each (Q (Some (w ++ written xs))) xs
  flow_says Q w End h e = tt
  flow_says Q w Stuck h e = absurd e
  flow_says Q w (Stopped t) h e = absurd e
  flow_says Q w (Answer a xs) h e =
      let r = calm_silent (Q (Some w)) xs h.1 e in
      subst (λ t. Q (Some t) a × Each (Q (Some t)) xs) (sym (ap (λ l. w ++ l) r.0 ∙ append-nil w)) (h.0, r.1)
  flow_says Q w (Called c xs) h e = flow_says Q w xs h e
  flow_says Q w (Wrote t xs) h e = subst (λ l. Each (Q (Some l)) xs) (append_assoc w t (written xs)) (flow_says Q (w ++ t) xs h e)
  flow_says Q w (Read k xs) h e = flow_says Q w xs h e

module _ {A B : Type 0} where
  pub calm_negate : (P : A → Type 0) (R : B → Type 0) (b : B) (xs : Items A) → Calm P xs → R b → Calm R (negate b xs)
  calm_negate P R b End h k = (k, tt)
  calm_negate P R b Stuck h k = tt
  calm_negate P R b (Stopped w) h k = tt
  calm_negate P R b (Answer a xs) h k = tt
  calm_negate P R b (Called c xs) h k = calm_negate P R b xs h k
  calm_negate P R b (Wrote t xs) h k = never_negate xs h
    where
      never_negate : (xs : Items A) → Never xs → Never (negate b xs)
      never_negate End h = absurd h
      never_negate Stuck h = tt
      never_negate (Stopped w) h = tt
      never_negate (Answer a xs) h = absurd h
      never_negate (Called c xs) h = never_negate xs h
      never_negate (Wrote t xs) h = never_negate xs h
      never_negate (Read k xs) h = never_negate xs h
  calm_negate P R b (Read r xs) h k = never_negate xs h
    where
      never_negate : (xs : Items A) → Never xs → Never (negate b xs)
      never_negate End h = absurd h
      never_negate Stuck h = tt
      never_negate (Stopped w) h = tt
      never_negate (Answer a xs) h = absurd h
      never_negate (Called c xs) h = never_negate xs h
      never_negate (Wrote t xs) h = never_negate xs h
      never_negate (Read k xs) h = never_negate xs h

  module _ (f : A → Items B) where
    pub never_bind : (xs : Items A) → Never xs → Never (bind xs f)
    never_bind End h = absurd h
    never_bind Stuck h = tt
    never_bind (Stopped w) h = tt
    never_bind (Answer a xs) h = absurd h
    never_bind (Called c xs) h = never_bind xs h
    never_bind (Wrote t xs) h = never_bind xs h
    never_bind (Read k xs) h = never_bind xs h

    never_choose : (xs : Items A) (ys : Items B) → Never xs → Never (choose xs f ys)
    never_choose End ys h = absurd h
    never_choose Stuck ys h = tt
    never_choose (Stopped w) ys h = tt
    never_choose (Answer a xs) ys h = absurd h
    never_choose (Called c xs) ys h = never_choose xs ys h
    never_choose (Wrote t xs) ys h = never_choose xs ys h
    never_choose (Read k xs) ys h = never_choose xs ys h

    -- a calm list whose answers give calm lists
    pub calm_bind : (P : A → Type 0) (R : B → Type 0) (xs : Items A) → Calm P xs → ((a : A) → P a → Calm R (f a)) → Calm R (bind xs f)
    calm_bind P R End h k = tt
    calm_bind P R Stuck h k = tt
    calm_bind P R (Stopped w) h k = tt
    calm_bind P R (Answer a xs) h k = calm_append R (f a) (bind xs f) (k a h.0) (calm_bind P R xs h.1 k)
    calm_bind P R (Called c xs) h k = calm_bind P R xs h k
    calm_bind P R (Wrote t xs) h k = never_bind xs h
    calm_bind P R (Read r xs) h k = never_bind xs h

    pub calm_choose : (P : A → Type 0) (R : B → Type 0) (xs : Items A) (ys : Items B) → Calm P xs → ((a : A) → P a → Calm R (f a)) → Calm R ys → Calm R (choose xs f ys)
    calm_choose P R End ys h k l = l
    calm_choose P R Stuck ys h k l = tt
    calm_choose P R (Stopped w) ys h k l = tt
    calm_choose P R (Answer a xs) ys h k l = calm_append R (f a) (bind xs f) (k a h.0) (calm_bind P R xs h.1 k)
    calm_choose P R (Called c xs) ys h k l = calm_choose P R xs ys h k l
    calm_choose P R (Wrote t xs) ys h k l = never_choose xs ys h
    calm_choose P R (Read r xs) ys h k l = never_choose xs ys h

    -- without answers, what is behind is calm
    calm_none : (P : A → Type 0) (R : B → Type 0) (xs : Items A) → Calm P xs → answers xs ≡ 0 → Calm R (bind xs f)
    calm_none P R End h n = tt
    calm_none P R Stuck h n = tt
    calm_none P R (Stopped w) h n = tt
    calm_none P R (Answer a xs) h n = absurd (no_answer (answers xs) n)
    calm_none P R (Called c xs) h n = calm_none P R xs h n
    calm_none P R (Wrote t xs) h n = never_bind xs h
    calm_none P R (Read r xs) h n = never_bind xs h

    -- a list that flows, whose answers give lists that never answer or end
    pub flow_bind_never : (I : A → Type 0) (Q : World → A → Type 0) (R : World → B → Type 0) (one all : Bool) (W : World) (xs : Items A) → Each I xs → Flow Q one W xs → ((a : A) → I a → Never (f a)) → Flow R all W (bind xs f)
    flow_bind_never I Q R one all W End i h k = tt
    flow_bind_never I Q R one all W Stuck i h k = tt
    flow_bind_never I Q R one all W (Stopped w) i h k = tt
    flow_bind_never I Q R one all W (Answer a xs) i h k = never_flow R all W (append (f a) (bind xs f)) (never_append (f a) (bind xs f) (k a i.0))
    flow_bind_never I Q R one all W (Called c xs) i h k = flow_bind_never I Q R one all W xs i h k
    flow_bind_never I Q R one all None (Wrote t xs) i h k = never_bind xs h
    flow_bind_never I Q R one all (Some w) (Wrote t xs) i h k = flow_bind_never I Q R one all (Some (w ++ t)) xs i h k
    flow_bind_never I Q R one all None (Read r xs) i h k = never_bind xs h
    flow_bind_never I Q R one all (Some w) (Read r xs) i h k = flow_bind_never I Q R one all (Some w) xs i h k

    -- where one answer is all that is asked for
    pub flow_bind_first : (I : A → Type 0) (Q : World → A → Type 0) (R : World → B → Type 0) (one : Bool) (W : World) (xs : Items A) → Each I xs → Flow Q one W xs → ((V : World) (a : A) → I a → Q V a → Flow R true V (f a)) → ((a : A) → I a → Succeeds (f a)) → Flow R true W (bind xs f)
    flow_bind_first I Q R one W End i h k s = tt
    flow_bind_first I Q R one W Stuck i h k s = tt
    flow_bind_first I Q R one W (Stopped w) i h k s = tt
    flow_bind_first I Q R one W (Answer a xs) i h k s = flow_append R true W (f a) (bind xs f) (k W a i.0 h.0) (s a i.0) (λ V. tt)
    flow_bind_first I Q R one W (Called c xs) i h k s = flow_bind_first I Q R one W xs i h k s
    flow_bind_first I Q R one None (Wrote t xs) i h k s = never_bind xs h
    flow_bind_first I Q R one (Some w) (Wrote t xs) i h k s = flow_bind_first I Q R one (Some (w ++ t)) xs i h k s
    flow_bind_first I Q R one None (Read r xs) i h k s = never_bind xs h
    flow_bind_first I Q R one (Some w) (Read r xs) i h k s = flow_bind_first I Q R one (Some w) xs i h k s

    -- with what holds of each answer
    pub calm_bind_each : (I P : A → Type 0) (R : B → Type 0) (xs : Items A) → Each I xs → Calm P xs → ((a : A) → I a → P a → Calm R (f a)) → Calm R (bind xs f)
    calm_bind_each I P R End i h k = tt
    calm_bind_each I P R Stuck i h k = tt
    calm_bind_each I P R (Stopped w) i h k = tt
    calm_bind_each I P R (Answer a xs) i h k = calm_append R (f a) (bind xs f) (k a i.0 h.0) (calm_bind_each I P R xs i.1 h.1 k)
    calm_bind_each I P R (Called c xs) i h k = calm_bind_each I P R xs i h k
    calm_bind_each I P R (Wrote t xs) i h k = never_bind xs h
    calm_bind_each I P R (Read r xs) i h k = never_bind xs h

    -- what follows is calm
    pub flow_bind_calm : (I : A → Type 0) (Q : World → A → Type 0) (R : World → B → Type 0) (W : World) (xs : Items A) → Each I xs → Flow Q false W xs → ((V : World) (a : A) → I a → Q V a → Calm (R V) (f a)) → Flow R false W (bind xs f)
    flow_bind_calm I Q R W End i h k = tt
    flow_bind_calm I Q R W Stuck i h k = tt
    flow_bind_calm I Q R W (Stopped w) i h k = tt
    flow_bind_calm I Q R W (Answer a xs) i h k = calm_flow R false W (append (f a) (bind xs f)) (calm_append (R W) (f a) (bind xs f) (k W a i.0 h.0) (calm_bind_each I (Q W) (R W) xs i.1 h.1 (k W)))
    flow_bind_calm I Q R W (Called c xs) i h k = flow_bind_calm I Q R W xs i h k
    flow_bind_calm I Q R None (Wrote t xs) i h k = never_bind xs h
    flow_bind_calm I Q R (Some w) (Wrote t xs) i h k = flow_bind_calm I Q R (Some (w ++ t)) xs i h k
    flow_bind_calm I Q R None (Read r xs) i h k = never_bind xs h
    flow_bind_calm I Q R (Some w) (Read r xs) i h k = flow_bind_calm I Q R (Some w) xs i h k

    -- there is at most one answer
    pub flow_bind_one : (I : A → Type 0) (Q : World → A → Type 0) (R : World → B → Type 0) (W : World) (xs : Items A) → Each I xs → Flow Q false W xs → answers xs ≤ 1 → ((V : World) (a : A) → I a → Q V a → Flow R false V (f a)) → ((a : A) → I a → Succeeds (f a)) → Flow R false W (bind xs f)
    flow_bind_one I Q R W End i h n k s = tt
    flow_bind_one I Q R W Stuck i h n k s = tt
    flow_bind_one I Q R W (Stopped w) i h n k s = tt
    flow_bind_one I Q R W (Answer a xs) i h n k s = flow_append R false W (f a) (bind xs f) (k W a i.0 h.0) (s a i.0) (λ V. calm_none (Q W) (R V) xs h.1 (omega arith))
    flow_bind_one I Q R W (Called c xs) i h n k s = flow_bind_one I Q R W xs i h n k s
    flow_bind_one I Q R None (Wrote t xs) i h n k s = never_bind xs h
    flow_bind_one I Q R (Some w) (Wrote t xs) i h n k s = flow_bind_one I Q R (Some (w ++ t)) xs i h n k s
    flow_bind_one I Q R None (Read r xs) i h n k s = never_bind xs h
    flow_bind_one I Q R (Some w) (Read r xs) i h n k s = flow_bind_one I Q R (Some w) xs i h n k s

    -- a condition is calm
    pub flow_choose_never : (I P : A → Type 0) (R : World → B → Type 0) (one : Bool) (W : World) (xs : Items A) (ys : Items B) → Each I xs → Calm P xs → ((a : A) → I a → Never (f a)) → Flow R one W ys → Flow R one W (choose xs f ys)
    flow_choose_never I P R one W End ys i h k y = y
    flow_choose_never I P R one W Stuck ys i h k y = tt
    flow_choose_never I P R one W (Stopped w) ys i h k y = tt
    flow_choose_never I P R one W (Answer a xs) ys i h k y = never_flow R one W (append (f a) (bind xs f)) (never_append (f a) (bind xs f) (k a i.0))
    flow_choose_never I P R one W (Called c xs) ys i h k y = flow_choose_never I P R one W xs ys i h k y
    flow_choose_never I P R one W (Wrote t xs) ys i h k y = never_flow R one W (choose (Wrote t xs) f ys) (never_choose xs ys h)
    flow_choose_never I P R one W (Read r xs) ys i h k y = never_flow R one W (choose (Read r xs) f ys) (never_choose xs ys h)

    pub flow_choose_first : (I P : A → Type 0) (R : World → B → Type 0) (W : World) (xs : Items A) (ys : Items B) → Each I xs → Calm P xs → ((a : A) → I a → P a → Flow R true W (f a)) → ((a : A) → I a → Succeeds (f a)) → Flow R true W ys → Flow R true W (choose xs f ys)
    flow_choose_first I P R W End ys i h k s y = y
    flow_choose_first I P R W Stuck ys i h k s y = tt
    flow_choose_first I P R W (Stopped w) ys i h k s y = tt
    flow_choose_first I P R W (Answer a xs) ys i h k s y = flow_append R true W (f a) (bind xs f) (k a i.0 h.0) (s a i.0) (λ V. tt)
    flow_choose_first I P R W (Called c xs) ys i h k s y = flow_choose_first I P R W xs ys i h k s y
    flow_choose_first I P R W (Wrote t xs) ys i h k s y = never_flow R true W (choose (Wrote t xs) f ys) (never_choose xs ys h)
    flow_choose_first I P R W (Read r xs) ys i h k s y = never_flow R true W (choose (Read r xs) f ys) (never_choose xs ys h)

    pub flow_choose_calm : (I P : A → Type 0) (R : World → B → Type 0) (W : World) (xs : Items A) (ys : Items B) → Each I xs → Calm P xs → ((a : A) → I a → P a → Calm (R W) (f a)) → Flow R false W ys → Flow R false W (choose xs f ys)
    flow_choose_calm I P R W End ys i h k y = y
    flow_choose_calm I P R W Stuck ys i h k y = tt
    flow_choose_calm I P R W (Stopped w) ys i h k y = tt
    flow_choose_calm I P R W (Answer a xs) ys i h k y = calm_flow R false W (append (f a) (bind xs f)) (calm_append (R W) (f a) (bind xs f) (k a i.0 h.0) (calm_bind_each I P (R W) xs i.1 h.1 k))
    flow_choose_calm I P R W (Called c xs) ys i h k y = flow_choose_calm I P R W xs ys i h k y
    flow_choose_calm I P R W (Wrote t xs) ys i h k y = never_flow R false W (choose (Wrote t xs) f ys) (never_choose xs ys h)
    flow_choose_calm I P R W (Read r xs) ys i h k y = never_flow R false W (choose (Read r xs) f ys) (never_choose xs ys h)

    pub flow_choose_one : (I P : A → Type 0) (R : World → B → Type 0) (W : World) (xs : Items A) (ys : Items B) → Each I xs → Calm P xs → answers xs ≤ 1 → ((a : A) → I a → P a → Flow R false W (f a)) → ((a : A) → I a → Succeeds (f a)) → Flow R false W ys → Flow R false W (choose xs f ys)
    flow_choose_one I P R W End ys i h n k s y = y
    flow_choose_one I P R W Stuck ys i h n k s y = tt
    flow_choose_one I P R W (Stopped w) ys i h n k s y = tt
    flow_choose_one I P R W (Answer a xs) ys i h n k s y = flow_append R false W (f a) (bind xs f) (k a i.0 h.0) (s a i.0) (λ V. calm_none P (R V) xs h.1 (omega arith))
    flow_choose_one I P R W (Called c xs) ys i h n k s y = flow_choose_one I P R W xs ys i h n k s y
    flow_choose_one I P R W (Wrote t xs) ys i h n k s y = never_flow R false W (choose (Wrote t xs) f ys) (never_choose xs ys h)
    flow_choose_one I P R W (Read r xs) ys i h n k s y = never_flow R false W (choose (Read r xs) f ys) (never_choose xs ys h)

    pub calm_choose_each : (I P : A → Type 0) (R : B → Type 0) (xs : Items A) (ys : Items B) → Each I xs → Calm P xs → ((a : A) → I a → P a → Calm R (f a)) → Calm R ys → Calm R (choose xs f ys)
    calm_choose_each I P R End ys i h k l = l
    calm_choose_each I P R Stuck ys i h k l = tt
    calm_choose_each I P R (Stopped w) ys i h k l = tt
    calm_choose_each I P R (Answer a xs) ys i h k l = calm_append R (f a) (bind xs f) (k a i.0 h.0) (calm_bind_each I P R xs i.1 h.1 k)
    calm_choose_each I P R (Called c xs) ys i h k l = calm_choose_each I P R xs ys i h k l
    calm_choose_each I P R (Wrote t xs) ys i h k l = never_choose xs ys h
    calm_choose_each I P R (Read r xs) ys i h k l = never_choose xs ys h

-- a calm list without answers is calm in any way
pub calm_any : {A : Type 0} (P R : A → Type 0) (xs : Items A) → Calm P xs → answers xs ≡ 0 → Calm R xs
calm_any P R End h n = tt
calm_any P R Stuck h n = tt
calm_any P R (Stopped w) h n = tt
calm_any P R (Answer a xs) h n = absurd (no_answer (answers xs) n)
calm_any P R (Called c xs) h n = calm_any P R xs h n
calm_any P R (Wrote t xs) h n = h
calm_any P R (Read r xs) h n = h
