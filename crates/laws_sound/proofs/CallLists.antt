-- The calls of compound lists.
use Rattle.mc_model.specs.EventList.{Items, Made_call, End, Stuck, Stopped, Answer, Called, Wrote, Read, append, bind, choose, first, negate, Each, EachCall}

module _ (Q : Made_call → Type 0) where
  pub calls_append : {A : Type 0} (xs ys : Items A) → EachCall Q xs → EachCall Q ys → EachCall Q (append xs ys)
  calls_append End ys h k = k
  calls_append Stuck ys h k = tt
  calls_append (Stopped w) ys h k = tt
  calls_append (Answer a xs) ys h k = calls_append xs ys h k
  calls_append (Called p xs) ys h k = (h.0, calls_append xs ys h.1 k)
  calls_append (Wrote t xs) ys h k = calls_append xs ys h k
  calls_append (Read t xs) ys h k = calls_append xs ys h k

  pub calls_first : {A : Type 0} (xs : Items A) → EachCall Q xs → EachCall Q (first xs)
  calls_first End h = tt
  calls_first Stuck h = tt
  calls_first (Stopped w) h = tt
  calls_first (Answer a xs) h = tt
  calls_first (Called p xs) h = (h.0, calls_first xs h.1)
  calls_first (Wrote t xs) h = calls_first xs h
  calls_first (Read t xs) h = calls_first xs h

  pub calls_negate : {A B : Type 0} (b : B) (xs : Items A) → EachCall Q xs → EachCall Q (negate b xs)
  calls_negate b End h = tt
  calls_negate b Stuck h = tt
  calls_negate b (Stopped w) h = tt
  calls_negate b (Answer a xs) h = tt
  calls_negate b (Called p xs) h = (h.0, calls_negate b xs h.1)
  calls_negate b (Wrote t xs) h = calls_negate b xs h
  calls_negate b (Read t xs) h = calls_negate b xs h

  module _ {A B : Type 0} (P : A → Type 0) (f : A → Items B) where
    pub calls_bind : (xs : Items A) → Each P xs → EachCall Q xs → ((a : A) → P a → EachCall Q (f a)) → EachCall Q (bind xs f)
    calls_bind End e h k = tt
    calls_bind Stuck e h k = tt
    calls_bind (Stopped w) e h k = tt
    calls_bind (Answer a xs) e h k = calls_append (f a) (bind xs f) (k a e.0) (calls_bind xs e.1 h k)
    calls_bind (Called p xs) e h k = (h.0, calls_bind xs e h.1 k)
    calls_bind (Wrote t xs) e h k = calls_bind xs e h k
    calls_bind (Read t xs) e h k = calls_bind xs e h k

    pub calls_choose : (xs : Items A) (ys : Items B) → Each P xs → EachCall Q xs → ((a : A) → P a → EachCall Q (f a)) → EachCall Q ys → EachCall Q (choose xs f ys)
    calls_choose End ys e h k l = l
    calls_choose Stuck ys e h k l = tt
    calls_choose (Stopped w) ys e h k l = tt
    calls_choose (Answer a xs) ys e h k l = calls_append (f a) (bind xs f) (k a e.0) (calls_bind xs e.1 h k)
    calls_choose (Called p xs) ys e h k l = (h.0, calls_choose xs ys e h.1 k l)
    calls_choose (Wrote t xs) ys e h k l = calls_choose xs ys e h k l
    calls_choose (Read t xs) ys e h k l = calls_choose xs ys e h k l
