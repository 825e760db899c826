-- Lists with ticks, without their ticks.
use Rattle.std.proofs.Common.{◌≡◌, ℕ, zero, suc, Bool, true, false, refl, ap, ◌∙◌}
use Rattle.mc_model.specs.EventList as L
use Rattle.mc_model.specs.EventList.{Items}
use Rattle.mc_model.specs.Stream as S
use Rattle.mc_flat_code.specs.Ticked.{Ticked, End, Stuck, Stopped, Answer, Called, Wrote, Read, Tick, events, append, bind, choose, first, negate, follow, below, at_height}

module _ {A : Type 0} where
  pub events_append : (xs ys : Ticked A) → events (append xs ys) ≡ L.append (events xs) (events ys)
  events_append End ys = refl
  events_append Stuck ys = refl
  events_append (Stopped h) ys = refl
  events_append (Answer a xs) ys = ap (λ l. L.Answer a l) (events_append xs ys)
  events_append (Called c xs) ys = ap (λ l. L.Called c l) (events_append xs ys)
  events_append (Wrote t xs) ys = ap (λ l. L.Wrote t l) (events_append xs ys)
  events_append (Read k xs) ys = ap (λ l. L.Read k l) (events_append xs ys)
  events_append (Tick xs) ys = events_append xs ys

  pub events_first : (xs : Ticked A) → events (first xs) ≡ L.first (events xs)
  events_first End = refl
  events_first Stuck = refl
  events_first (Stopped h) = refl
  events_first (Answer a xs) = refl
  events_first (Called c xs) = ap (λ l. L.Called c l) (events_first xs)
  events_first (Wrote t xs) = ap (λ l. L.Wrote t l) (events_first xs)
  events_first (Read k xs) = ap (λ l. L.Read k l) (events_first xs)
  events_first (Tick xs) = events_first xs

  pub events_negate : {B : Type 0} (b : B) (xs : Ticked A) → events (negate b xs) ≡ L.negate b (events xs)
  events_negate b End = refl
  events_negate b Stuck = refl
  events_negate b (Stopped h) = refl
  events_negate b (Answer a xs) = refl
  events_negate b (Called c xs) = ap (λ l. L.Called c l) (events_negate b xs)
  events_negate b (Wrote t xs) = ap (λ l. L.Wrote t l) (events_negate b xs)
  events_negate b (Read k xs) = ap (λ l. L.Read k l) (events_negate b xs)
  events_negate b (Tick xs) = events_negate b xs

module _ {A B : Type 0} where
  pub events_bind : (xs : Ticked A) (f : A → Ticked B) → events (bind xs f) ≡ L.bind (events xs) (λ a. events (f a))
  events_bind End f = refl
  events_bind Stuck f = refl
  events_bind (Stopped h) f = refl
  events_bind (Answer a xs) f =
      events_append (f a) (bind xs f) ∙ ap (λ l. L.append (events (f a)) l) (events_bind xs f)
  events_bind (Called c xs) f = ap (λ l. L.Called c l) (events_bind xs f)
  events_bind (Wrote t xs) f = ap (λ l. L.Wrote t l) (events_bind xs f)
  events_bind (Read k xs) f = ap (λ l. L.Read k l) (events_bind xs f)
  events_bind (Tick xs) f = events_bind xs f

  pub events_choose : (xs : Ticked A) (f : A → Ticked B) (ys : Ticked B) → events (choose xs f ys) ≡ L.choose (events xs) (λ a. events (f a)) (events ys)
  events_choose End f ys = refl
  events_choose Stuck f ys = refl
  events_choose (Stopped h) f ys = refl
  events_choose (Answer a xs) f ys =
      events_append (f a) (bind xs f) ∙ ap (λ l. L.append (events (f a)) l) (events_bind xs f)
  events_choose (Called c xs) f ys = ap (λ l. L.Called c l) (events_choose xs f ys)
  events_choose (Wrote t xs) f ys = ap (λ l. L.Wrote t l) (events_choose xs f ys)
  events_choose (Read k xs) f ys = ap (λ l. L.Read k l) (events_choose xs f ys)
  events_choose (Tick xs) f ys = events_choose xs f ys

  pub events_follow : (xs : Items A) (f : A → Ticked B) → events (follow xs f) ≡ L.bind xs (λ a. events (f a))
  events_follow L.End f = refl
  events_follow L.Stuck f = refl
  events_follow (L.Stopped h) f = refl
  events_follow (L.Answer a xs) f =
      events_append (f a) (follow xs f) ∙ ap (λ l. L.append (events (f a)) l) (events_follow xs f)
  events_follow (L.Called c xs) f = ap (λ l. L.Called c l) (events_follow xs f)
  events_follow (L.Wrote t xs) f = ap (λ l. L.Wrote t l) (events_follow xs f)
  events_follow (L.Read k xs) f = ap (λ l. L.Read k l) (events_follow xs f)

module _ {A : Type 0} where
  events_below : (h : ℕ) (f : ℕ → Ticked A) → events (below h f) ≡ S.below h (λ k. events (f k))
  events_below zero f = refl
  events_below (suc h) f = refl

  pub events_at_height : (last : Bool) (h : ℕ) (f : ℕ → Ticked A) → events (at_height last h f) ≡ S.at_height last h (λ k. events (f k))
  events_at_height true h f = refl
  events_at_height false h f = events_below h f

module _ {A B : Type 0} where
  bind_below : (h : ℕ) (f : ℕ → Items A) (g : A → Items B) → L.bind (S.below h f) g ≡ S.below h (λ k. L.bind (f k) g)
  bind_below zero f g = refl
  bind_below (suc h) f g = refl

  pub bind_at_height : (last : Bool) (h : ℕ) (f : ℕ → Items A) (g : A → Items B) → L.bind (S.at_height last h f) g ≡ S.at_height last h (λ k. L.bind (f k) g)
  bind_at_height true h f g = refl
  bind_at_height false h f g = bind_below h f g
