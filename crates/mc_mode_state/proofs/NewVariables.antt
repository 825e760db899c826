-- New variables, which are free.
use Rattle.std.proofs.Common.{◌≡◌, ℕ, Vec, Global, zero, suc, ◌<◌, ◌≤◌, List, [], ◌∷◌, ◌++◌, length, get_or, take, refl, sym, ap, ◌∙◌, subst, arith, length-append}
use Rattle.std.proofs.Math.Seq.{take-append_seam}
use Rattle.std.proofs.lemmas.List.{length-take}
use Rattle.mc_program.specs.declared.ty.Ty.{Ty}
use Rattle.mc_accepted.specs.Arranged.{Point}
use Rattle.mc_insts.specs.Graphs.{count_of}
use Rattle.mc_procs.specs.Procedures.{PlainProcs}
use Rattle.mc_mode_state.specs.Nodes.{type_in}
use Rattle.mc_mode_state.specs.States.{point_of, TrailWithin, SameLengths}
use Rattle.mc_mode_state.specs.Agreeing.{StateInvariant, LaterByTrail}
use Rattle.mc_mode_state.specs.code.Applying.{AlikeIn}
use Rattle.mc_mode_state.specs.declared.state.State.{State}
use Rattle.mc_mode_state.proofs.Rewinds.{leads-same}
use Rattle.mc_mode_state.proofs.Found.{nodes-stay, type-kept}

pub zero-pushed : (is : List ℕ) (x : ℕ) → get_or (is ++ 0 ∷ []) x 0 ≡ get_or is x 0
zero-pushed [] zero = refl
zero-pushed [] (suc x) = refl
zero-pushed (i ∷ is) zero = refl
zero-pushed (i ∷ is) (suc x) = zero-pushed is x

zero-everywhere : (is : List ℕ) → point_of (is ++ 0 ∷ []) ≡ point_of is
zero-everywhere is = λ i x. zero-pushed is x i

pub point-pushed : (is js : List ℕ) → js ≡ is ++ 0 ∷ [] → point_of js ≡ point_of is
point-pushed is js e = ap point_of e ∙ zero-everywhere is

pub within-more : (n m : ℕ) (es : List (ℕ × ℕ)) → n ≤ m → TrailWithin n es → TrailWithin m es
within-more n m [] h w = tt
within-more n m (e ∷ es) h w = (let a = w.0 in omega arith, within-more n m es h w.1)

pub count-pushed : {A : Type 0} (xs ys : List A) (x : A) → ys ≡ xs ++ x ∷ [] → length ys ≡ suc (length xs)
count-pushed xs ys x e = omega (arith, ap length e, length-append xs (x ∷ []))

-- a state with one variable more
module _ (s t : State) (y : Ty) (i : t.insts.items ≡ s.insts.items ++ 0 ∷ []) (o : t.outside.items ≡ s.outside.items ++ 0 ∷ []) (u : t.types.items ≡ s.types.items ++ y ∷ []) where
  pub even-new : SameLengths s → SameLengths t
  even-new e = record {
    outside = let a = e.outside in omega (arith, count-pushed s.outside.items t.outside.items 0 o, count-pushed s.insts.items t.insts.items 0 i);
    types = let a = e.types in omega (arith, count-pushed s.types.items t.types.items y u, count-pushed s.insts.items t.insts.items 0 i);
  }

  pub types-new : take (length s.types.items) t.types.items ≡ s.types.items
  types-new = ap (take (length s.types.items)) u ∙ take-append_seam s.types.items (y ∷ [])

  pub stepped-new : (q : PlainProcs) → StateInvariant q s → t.trail ≡ s.trail → t.nodes ≡ s.nodes → LaterByTrail q q s t
  stepped-new q st l n =
      let p : point_of t.insts.items ≡ point_of s.insts.items = point-pushed s.insts.items t.insts.items i in
      let m : length t.insts.items ≡ suc (length s.insts.items) = count-pushed s.insts.items t.insts.items 0 i in
      record {
        later = record {
          leads = leads-same s t p (ap (λ (v : Vec (ℕ × ℕ) Global). v.items) l);
          more = omega (arith, m);
          outside = λ x. ap (λ js. get_or js x 0) o ∙ zero-pushed s.outside.items x;
          types = types-new;
        };
        moved = record {
          nodes = rw n (nodes-stay q s.nodes st.fit st.nodes);
          types = types-new;
          stands = record {
            fit = st.fit;
            even = even-new st.even;
            insts = λ x. subst (λ (b : Point ℕ). b x < count_of q.insts) (sym p) (st.insts x);
            trail = subst (λ (v : Vec (ℕ × ℕ) Global). TrailWithin (length t.insts.items) v.items) (sym l) (within-more (length s.insts.items) (length t.insts.items) s.trail.items (omega (arith, m)) st.trail);
            nodes = rw n st.nodes;
          };
        };
      }

-- tests of variables that have one type
pub alike-later : (ts us : List Ty) (rest : List (ℕ × ℕ)) → take (length ts) us ≡ ts → AlikeIn ts rest → AlikeIn us rest
alike-later ts us [] e w = tt
alike-later ts us (t ∷ rest) e w =
    let l : length ts ≤ length us = omega (arith, length-take (length ts) us, ap length e) in
    let a = w.0 in
    let b = w.1 in
    (omega arith, omega arith, type-kept ts us t.0 e w.0 ∙ (w.2 ∙ sym (type-kept ts us t.1 e w.1)), alike-later ts us rest e w.3)

pub alike-pushed : (ts : List Ty) (rest : List (ℕ × ℕ)) (z x : ℕ) → z < length ts → x < length ts → type_in ts z ≡ type_in ts x → AlikeIn ts rest → AlikeIn ts (rest ++ (z, x) ∷ [])
alike-pushed ts [] z x h k e w = (h, k, e, tt)
alike-pushed ts (t ∷ rest) z x h k e w = (w.0, w.1, w.2, alike-pushed ts rest z x h k e w.3)
