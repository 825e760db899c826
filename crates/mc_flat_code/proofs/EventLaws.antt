-- Laws of event lists: one after another, and answers replaced by lists.
use Rattle.std.proofs.Common.{◌≡◌, refl, sym, ap, ◌∙◌}
use Rattle.mc_model.specs.EventList.{Items, End, Stuck, Stopped, Answer, Called, Wrote, Read, append, bind, choose, first}

module _ {A : Type 0} where
  pub append_end : (xs : Items A) → append xs End ≡ xs
  append_end End = refl
  append_end Stuck = refl
  append_end (Stopped h) = refl
  append_end (Answer a xs) = ap (λ l. Answer a l) (append_end xs)
  append_end (Called c xs) = ap (λ l. Called c l) (append_end xs)
  append_end (Wrote t xs) = ap (λ l. Wrote t l) (append_end xs)
  append_end (Read k xs) = ap (λ l. Read k l) (append_end xs)

  pub append_append : (xs ys zs : Items A) → append (append xs ys) zs ≡ append xs (append ys zs)
  append_append End ys zs = refl
  append_append Stuck ys zs = refl
  append_append (Stopped h) ys zs = refl
  append_append (Answer a xs) ys zs = ap (λ l. Answer a l) (append_append xs ys zs)
  append_append (Called c xs) ys zs = ap (λ l. Called c l) (append_append xs ys zs)
  append_append (Wrote t xs) ys zs = ap (λ l. Wrote t l) (append_append xs ys zs)
  append_append (Read k xs) ys zs = ap (λ l. Read k l) (append_append xs ys zs)

  pub bind_one : (xs : Items A) → bind xs (λ a. Answer a End) ≡ xs
  bind_one End = refl
  bind_one Stuck = refl
  bind_one (Stopped h) = refl
  bind_one (Answer a xs) = ap (λ l. Answer a l) (bind_one xs)
  bind_one (Called c xs) = ap (λ l. Called c l) (bind_one xs)
  bind_one (Wrote t xs) = ap (λ l. Wrote t l) (bind_one xs)
  bind_one (Read k xs) = ap (λ l. Read k l) (bind_one xs)

module _ {A B : Type 0} where
  pub bind_append : (xs ys : Items A) (f : A → Items B) → bind (append xs ys) f ≡ append (bind xs f) (bind ys f)
  bind_append End ys f = refl
  bind_append Stuck ys f = refl
  bind_append (Stopped h) ys f = refl
  bind_append (Answer a xs) ys f =
      ap (λ l. append (f a) l) (bind_append xs ys f) ∙ sym (append_append (f a) (bind xs f) (bind ys f))
  bind_append (Called c xs) ys f = ap (λ l. Called c l) (bind_append xs ys f)
  bind_append (Wrote t xs) ys f = ap (λ l. Wrote t l) (bind_append xs ys f)
  bind_append (Read k xs) ys f = ap (λ l. Read k l) (bind_append xs ys f)

  -- the first answer of answers that are each replaced by one
  pub first_bind_one : (xs : Items A) (f : A → B) → first (bind xs (λ a. Answer (f a) End)) ≡ bind (first xs) (λ a. Answer (f a) End)
  first_bind_one End f = refl
  first_bind_one Stuck f = refl
  first_bind_one (Stopped h) f = refl
  first_bind_one (Answer a xs) f = refl
  first_bind_one (Called c xs) f = ap (λ l. Called c l) (first_bind_one xs f)
  first_bind_one (Wrote t xs) f = ap (λ l. Wrote t l) (first_bind_one xs f)
  first_bind_one (Read k xs) f = ap (λ l. Read k l) (first_bind_one xs f)

module _ {A B C : Type 0} where
  pub bind_bind : (xs : Items A) (f : A → Items B) (g : B → Items C) → bind (bind xs f) g ≡ bind xs (λ a. bind (f a) g)
  bind_bind End f g = refl
  bind_bind Stuck f g = refl
  bind_bind (Stopped h) f g = refl
  bind_bind (Answer a xs) f g =
      bind_append (f a) (bind xs f) g ∙ ap (λ l. append (bind (f a) g) l) (bind_bind xs f g)
  bind_bind (Called c xs) f g = ap (λ l. Called c l) (bind_bind xs f g)
  bind_bind (Wrote t xs) f g = ap (λ l. Wrote t l) (bind_bind xs f g)
  bind_bind (Read k xs) f g = ap (λ l. Read k l) (bind_bind xs f g)

  pub bind_choose : (xs : Items A) (f : A → Items B) (ys : Items B) (g : B → Items C) → bind (choose xs f ys) g ≡ choose xs (λ a. bind (f a) g) (bind ys g)
  bind_choose End f ys g = refl
  bind_choose Stuck f ys g = refl
  bind_choose (Stopped h) f ys g = refl
  bind_choose (Answer a xs) f ys g =
      bind_append (f a) (bind xs f) g ∙ ap (λ l. append (bind (f a) g) l) (bind_bind xs f g)
  bind_choose (Called c xs) f ys g = ap (λ l. Called c l) (bind_choose xs f ys g)
  bind_choose (Wrote t xs) f ys g = ap (λ l. Wrote t l) (bind_choose xs f ys g)
  bind_choose (Read k xs) f ys g = ap (λ l. Read k l) (bind_choose xs f ys g)
