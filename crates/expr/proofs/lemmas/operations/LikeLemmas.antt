-- The test of LIKE is its relation, and the first place of a segment is as good as any other.
use Rattle.std.proofs.Common.{◌≡◌, ℕ, Bool, true, false, ◌==◌, ◌||◌, ◌&&◌, if◌then◌else◌, List, [], ◌∷◌, ◌++◌, IsTrue, MatchBool, length, Option, Some, None, refl, sym, ap, subst, ◌∙◌}
use Rattle.std.proofs.Math.Dec.{eqb-suc-zero}
use Rattle.std.proofs.lemmas.List.{append_assoc, nil_from_length}
use Rattle.expr.specs.operations.Like.{fits_one, Likes, any_rest, on_first, is_empty, likes, TestIsRelation, past_one, past}

or_left : (a b : Bool) → IsTrue a → IsTrue (a || b)
or_left true b h = refl
or_left false b h = cc

or_right : (a b : Bool) → IsTrue b → IsTrue (a || b)
or_right true b h = refl
or_right false b h = h

-- the whole is an end
pub any_rest_whole : (f : List ℕ → Bool) (t : List ℕ) → IsTrue (f t) → IsTrue (any_rest f t)
any_rest_whole f [] h = h
any_rest_whole f (c ∷ cs) h = or_left (f (c ∷ cs)) (any_rest f cs) h

-- an end that passes
abbrev End : (List ℕ → Bool) → List ℕ → Type 0
End f t = (run : List ℕ) × (rest : List ℕ) × (t ≡ run ++ rest) × IsTrue (f rest)

first_or_later : (f : List ℕ → Bool) (c : ℕ) (cs : List ℕ) (b : Bool) → f (c ∷ cs) ≡ b → (IsTrue (any_rest f cs) → End f cs) → IsTrue (b || any_rest f cs) → End f (c ∷ cs)
first_or_later f c cs true e later h = ([], c ∷ cs, refl, e)
first_or_later f c cs false e later h = let r = later h in (c ∷ r.0, r.1, ap (λ x. c ∷ x) r.2, r.3)

some_end : (f : List ℕ → Bool) (t : List ℕ) → IsTrue (any_rest f t) → End f t
some_end f [] h = ([], [], refl, h)
some_end f (c ∷ cs) h = first_or_later f c cs (f (c ∷ cs)) refl (some_end f cs) h

end_passes : (f : List ℕ → Bool) (run rest : List ℕ) → IsTrue (f rest) → IsTrue (any_rest f (run ++ rest))
end_passes f [] [] h = h
end_passes f [] (c ∷ cs) h = or_left (f (c ∷ cs)) (any_rest f cs) h
end_passes f (c ∷ run) rest h = or_right (f (c ∷ (run ++ rest))) (any_rest f (run ++ rest)) (end_passes f run rest h)

and_both : (a b : Bool) → IsTrue (a && b) → IsTrue a × IsTrue b
and_both true b h = (refl, h)
and_both false b h = cc

and_of : (a b : Bool) → IsTrue a → IsTrue b → IsTrue (a && b)
and_of true b p q = q
and_of false b p q = p

abbrev Test : ℕ → List ℕ → List ℕ → Bool → Bool
Test p ps t b = if b then any_rest (likes ps) t else on_first (λ c cs. fits_one p c && likes ps cs) t

abbrev Step : ℕ → List ℕ → List ℕ → Bool → Type 0
Step p ps t b =
    MatchBool b ((run : List ℕ) × (rest : List ℕ) × (t ≡ run ++ rest) × Likes ps rest) ((c : ℕ) × (rest : List ℕ) × (t ≡ c ∷ rest) × IsTrue (fits_one p c) × Likes ps rest)

to_step : (p : ℕ) (ps t : List ℕ) → ((u : List ℕ) → IsTrue (likes ps u) → Likes ps u) → (b : Bool) → IsTrue (Test p ps t b) → Step p ps t b
to_step p ps t later true h = let r = some_end (likes ps) t h in (r.0, r.1, r.2, later r.1 r.3)
to_step p ps [] later false h = cc
to_step p ps (c ∷ cs) later false h = let r = and_both (fits_one p c) (likes ps cs) h in (c, cs, refl, r.0, later cs r.1)

to : (p t : List ℕ) → IsTrue (likes p t) → Likes p t
to [] [] h = refl
to [] (c ∷ cs) h = cc
to (p ∷ ps) t h = to_step p ps t (to ps) (p == 37) h

from_step : (p : ℕ) (ps t : List ℕ) → ((u : List ℕ) → Likes ps u → IsTrue (likes ps u)) → (b : Bool) → Step p ps t b → IsTrue (Test p ps t b)
from_step p ps t later true h = subst (λ x. IsTrue (any_rest (likes ps) x)) (sym h.2) (end_passes (likes ps) h.0 h.1 (later h.1 h.3))
from_step p ps t later false h =
    subst (λ x. IsTrue (on_first (λ c cs. fits_one p c && likes ps cs) x)) (sym h.2) (and_of (fits_one p h.0) (likes ps h.1) h.3 (later h.1 h.4))

from : (p t : List ℕ) → Likes p t → IsTrue (likes p t)
from [] t h = ap is_empty h
from (p ∷ ps) t h = from_step p ps t (from ps) (p == 37) h

pub test_is_relation : TestIsRelation
test_is_relation p t = (to p t, from p t)

-- ---- the front of a pattern, up to its next `%`

abbrev pub Left : Type 0
Left = Option (List ℕ × List ℕ)

abbrev pub head_or : ℕ → List ℕ → ℕ
head_or d [] = d
head_or d (p ∷ ps) = p

abbrev pub tail_of : List ℕ → List ℕ
tail_of [] = []
tail_of (p ∷ ps) = ps

abbrev IsEmpty : List ℕ → Type 0
IsEmpty [] = Unit {0}
IsEmpty (p ∷ ps) = ⊥

abbrev IsUsedUp : Left → Type 0
IsUsedUp None = ⊥
IsUsedUp (Some s) = IsEmpty s.0

abbrev pub rest_likes : Left → Bool
rest_likes None = false
rest_likes (Some s) = likes s.0 s.1

abbrev pub pattern_head : ℕ → Left → ℕ
pattern_head d None = d
pattern_head d (Some s) = head_or d s.0

abbrev pub pattern_tail : Left → List ℕ
pattern_tail None = []
pattern_tail (Some s) = tail_of s.0

abbrev pub text_left : Left → List ℕ
text_left None = []
text_left (Some s) = s.1

abbrev Past : ℕ → List ℕ → List ℕ → Bool → Left
Past p ps t b = if b then Some (p ∷ ps, t) else past_one p (past ps) t

fitted : (b : Bool) (m : Left) (s : List ℕ × List ℕ) → (if b then m else None) ≡ Some s → m ≡ Some s
fitted true m s e = e
fitted false m s e = cc

by_fit : (b x : Bool) (m : Left) → x ≡ rest_likes m → (b && x) ≡ rest_likes (if b then m else None)
by_fit true x m h = h
by_fit false x m h = refl

likes_past_by : (p : ℕ) (ps t : List ℕ) → ((u : List ℕ) → likes ps u ≡ rest_likes (past ps u)) → (b : Bool) → (p == 37) ≡ b → Test p ps t b ≡ rest_likes (Past p ps t b)
likes_past_by p ps t ih true e = ap (Test p ps t) (sym e)
likes_past_by p ps [] ih false e = refl
likes_past_by p ps (c ∷ cs) ih false e = by_fit (fits_one p c) (likes ps cs) (past ps cs) (ih cs)

-- a pattern matches where what is left of it does
pub likes_past : (p t : List ℕ) → likes p t ≡ rest_likes (past p t)
likes_past [] t = refl
likes_past (p ∷ ps) t = likes_past_by p ps t (likes_past ps) (p == 37) refl

past_head_by : (p : ℕ) (ps t : List ℕ) (h : ℕ) (q r : List ℕ) → ((u : List ℕ) → past ps u ≡ Some (h ∷ q, r) → (h == 37) ≡ true) → (b : Bool) → (p == 37) ≡ b → Past p ps t b ≡ Some (h ∷ q, r) → (h == 37) ≡ true
past_head_by p ps t h q r ih true e g = ap (λ x. x == 37) (sym (ap (pattern_head 0) g)) ∙ e
past_head_by p ps [] h q r ih false e g = cc
past_head_by p ps (c ∷ cs) h q r ih false e g = ih cs (fitted (fits_one p c) (past ps cs) (h ∷ q, r) g)

-- what is left of it begins with `%`
past_head : (p t : List ℕ) (h : ℕ) (q r : List ℕ) → past p t ≡ Some (h ∷ q, r) → (h == 37) ≡ true
past_head [] t h q r g = absurd (subst IsUsedUp g tt)
past_head (p ∷ ps) t h q r g = past_head_by p ps t h q r (λ u. past_head ps u h q r) (p == 37) refl g

later_passes : (f : List ℕ → Bool) (run u : List ℕ) → IsTrue (any_rest f u) → IsTrue (any_rest f (run ++ u))
later_passes f [] u h = h
later_passes f (c ∷ run) u h = or_right (f (c ∷ (run ++ u))) (any_rest f (run ++ u)) (later_passes f run u h)

-- where the front stands at a text, and the pattern matches an end of it, the rest matches behind the front
behind_by :
    (p : ℕ) (ps run u : List ℕ) (h : ℕ) (q r : List ℕ)
    → ((run u : List ℕ) → past ps (run ++ u) ≡ Some (h ∷ q, r) → IsTrue (likes ps u) → IsTrue (any_rest (likes q) r))
    → (b : Bool) → Past p ps (run ++ u) b ≡ Some (h ∷ q, r) → IsTrue (Test p ps u b) → IsTrue (any_rest (likes q) r)
behind_by p ps run u h q r ih true g l =
    subst (λ x. IsTrue (any_rest (likes q) x)) (ap text_left g)
    (subst (λ x. IsTrue (any_rest (likes x) (run ++ u))) (ap pattern_tail g) (later_passes (likes ps) run u l))
behind_by p ps run [] h q r ih false g l = cc
behind_by p ps [] (c ∷ cs) h q r ih false g l =
    ih [] cs (fitted (fits_one p c) (past ps cs) (h ∷ q, r) g) (and_both (fits_one p c) (likes ps cs) l).1
behind_by p ps (d ∷ run) (c ∷ cs) h q r ih false g l =
    ih (run ++ (c ∷ [])) cs
    (ap (past ps) (append_assoc run (c ∷ []) cs) ∙ fitted (fits_one p d) (past ps (run ++ (c ∷ cs))) (h ∷ q, r) g)
    (and_both (fits_one p c) (likes ps cs) l).1

behind : (p run u : List ℕ) (h : ℕ) (q r : List ℕ) → past p (run ++ u) ≡ Some (h ∷ q, r) → IsTrue (likes p u) → IsTrue (any_rest (likes q) r)
behind [] run u h q r g l = absurd (subst IsUsedUp g tt)
behind (p ∷ ps) run u h q r g l = behind_by p ps run u h q r (λ run u. behind ps run u h q r) (p == 37) g l

-- one that stands at the front, with a `%` behind it
pub likes_front : (p t : List ℕ) (h : ℕ) (q r : List ℕ) → past p t ≡ Some (h ∷ q, r) → any_rest (likes q) r ≡ likes p t
likes_front p t h q r g = sym (likes_past p t ∙ ap rest_likes g ∙ ap (Test h q r) (past_head p t h q r g))

-- one that stands at the front as a whole
pub likes_whole : (p t r : List ℕ) → past p t ≡ Some ([], r) → is_empty r ≡ likes p t
likes_whole p t r g = sym (likes_past p t ∙ ap rest_likes g)

pub likes_none : (p t : List ℕ) → past p t ≡ None → false ≡ likes p t
likes_none p t g = sym (likes_past p t ∙ ap rest_likes g)

same_truth : (a b : Bool) → (IsTrue a → IsTrue b) → (IsTrue b → IsTrue a) → a ≡ b
same_truth true b f g = sym (f refl)
same_truth false true f g = g refl
same_truth false false f g = refl

from_end : (p t : List ℕ) (h : ℕ) (q r : List ℕ) → past p t ≡ Some (h ∷ q, r) → End (likes p) t → IsTrue (any_rest (likes q) r)
from_end p t h q r g s = behind p s.0 s.1 h q r (ap (past p) (sym s.2) ∙ g) s.3

-- the first place at which the front stands is as good as any other
pub first_place : (p t : List ℕ) (h : ℕ) (q r : List ℕ) → past p t ≡ Some (h ∷ q, r) → any_rest (likes q) r ≡ any_rest (likes p) t
first_place p t h q r g =
    same_truth (any_rest (likes q) r) (any_rest (likes p) t)
    (λ l. any_rest_whole (likes p) t (sym (likes_front p t h q r g) ∙ l))
    (λ l. from_end p t h q r g (some_end (likes p) t l))

-- no match at the front
pub next_place : (p : List ℕ) (c : ℕ) (cs : List ℕ) → false ≡ likes p (c ∷ cs) → any_rest (likes p) cs ≡ any_rest (likes p) (c ∷ cs)
next_place p c cs e = ap (λ b. b || any_rest (likes p) cs) e

-- ---- the same as the matcher meets them

empty_is : (l : List ℕ) → (length l == 0) ≡ is_empty l
empty_is [] = refl
empty_is (x ∷ xs) = eqb-suc-zero (length xs)

-- the pattern is used up at the front
pub whole_of : (p t l r : List ℕ) → Some (l, r) ≡ past p t → length l ≡ 0 → (length r == 0) ≡ likes p t
whole_of p t l r g e = empty_is r ∙ likes_whole p t r (sym g ∙ ap (λ x. Some (x, r)) (nil_from_length l e))

pub front_of : (p t l : List ℕ) (h : ℕ) (q r : List ℕ) → Some (l, r) ≡ past p t → l ≡ h ∷ q → any_rest (likes q) r ≡ likes p t
front_of p t l h q r g e = likes_front p t h q r (sym g ∙ ap (λ x. Some (x, r)) e)

pub place_of : (p t l : List ℕ) (h : ℕ) (q r : List ℕ) → Some (l, r) ≡ past p t → l ≡ h ∷ q → any_rest (likes q) r ≡ any_rest (likes p) t
place_of p t l h q r g e = first_place p t h q r (sym g ∙ ap (λ x. Some (x, r)) e)

pub none_of : (p t : List ℕ) → None ≡ past p t → false ≡ likes p t
none_of p t g = likes_none p t (sym g)

pub last_of : (p t : List ℕ) → length t ≡ 0 → false ≡ likes p t → false ≡ any_rest (likes p) t
last_of p [] e h = h
last_of p (c ∷ cs) e h = cc

pub later_of : (p t : List ℕ) (c : ℕ) (cs : List ℕ) → t ≡ c ∷ cs → false ≡ likes p t → any_rest (likes p) cs ≡ any_rest (likes p) t
later_of p t c cs e h = next_place p c cs (h ∙ ap (likes p) e) ∙ ap (any_rest (likes p)) (sym e)
