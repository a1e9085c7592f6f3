-- The way of a cursor, and what it blames.
use Rattle.std.proofs.Common.{◌≡◌, ◌≢◌, ◌⊎◌, ℕ, suc, ◌+◌, ◌<◌, ◌≤◌, List, [], ◌∷◌, ◌++◌, length, refl, sym, ◌∙◌, ap, subst, arith, inl, inr}
use Rattle.std.proofs.lemmas.List.{length_push, same_from_push}
use Rattle.values.specs.declared.fault.Fault.{Fault}
use Rattle.values.specs.declared.fault.Fault.TheVariants.{ReadFailed, NoMemory, BadPage, BadDepth, Finished}
use Rattle.btree.specs.declared.image.kind.TreeKind.{TreeKind}
use Rattle.btree.specs.declared.image.kind.Level.{Level}
use Rattle.btree.specs.declared.image.kind.Level.TheVariants.{Leaf, Interior}
use Rattle.btree.specs.image.Broken.{BlamesMet}
use Rattle.btree.specs.image.Pages.{Pages, IsNumber}
use Rattle.btree.specs.image.Tree.{HasEntries, HasHeader, IsMetAt, from_root, by_name, IsNamedChild, IsPageOf, child_at, count_at}
use Rattle.btree_cursor.specs.declared.cursor.cursor.Cursor.{Cursor}
use Rattle.btree_cursor.specs.declared.cursor.cursor.Frame.{Frame}
use Rattle.btree_cursor.specs.cursor.Calls.{IsCursorFault, IsDescentFault, IsStepFault}
use Rattle.btree_cursor.specs.cursor.Rest.{Holds}
use Rattle.btree_cursor.specs.cursor.Way.{HasReached, HoldsMet, IsWay, nowhere, further, LeadsTo, StandsOn}
use Rattle.btree.proofs.PageLemmas.{flag_of-same}

empty_or_not : (frames : List Frame) → (frames ≡ []) ⊎ (frames ≢ [])
empty_or_not [] = inl refl
empty_or_not (f ∷ fs) = inr (λ e. let l : suc (length fs) ≡ 0 = ap length e in omega arith)

module _ (pages : Pages) (kind : TreeKind) (root : ℕ) where
  -- the last frame, and those above it
  pub record EndsWith (frames : List Frame) (frame : Frame) : Type 0 where
    pub way : IsWay pages kind root frames
    pub met : HoldsMet pages kind root frames frame

  pub last_of : {all : List Frame} (frames : List Frame) (frame : Frame) → IsWay pages kind root all → all ≡ frames ++ (frame ∷ []) → EndsWith frames frame
  last_of frames frame nowhere e = absurd (let l : 0 ≡ length frames + 1 = ap length e ∙ length_push frames frame in omega arith)
  last_of frames frame (further {frames = inside} last all way met is) e =
      let same = same_from_push inside frames last frame (sym is ∙ e) in
      record {
        way = subst (λ (x : List Frame). IsWay pages kind root x) same.0 way;
        met = subst (λ (x : Frame). HoldsMet pages kind root frames x) same.1 (subst (λ (x : List Frame). HoldsMet pages kind root x last) same.0 met);
      }

  -- where a page is held, the root is an interior page
  root_interior : {all : List Frame} → IsWay pages kind root all → all ≢ [] → HasHeader pages kind Interior root
  root_interior nowhere some = absurd (some refl)
  root_interior (further {frames} frame all way met is) some = elim (empty_or_not frames) [
    | inl none ↦ subst (λ (n : ℕ). HasHeader pages kind Interior n) (met.first none) met.header
    | inr more ↦ root_interior way more
  ]

  same_level : (n : ℕ) (one other : Level) → HasHeader pages kind one n → HasHeader pages kind other n → one ≡ other
  same_level n one other h i = flag_of-same kind one other (sym h.flag_is ∙ i.flag_is)

  -- a page that has no header of the tree's kind
  pub blames_header : (depth n : ℕ) → IsMetAt pages kind root depth n → ((level : Level) → ¬ HasHeader pages kind level n) → BlamesMet pages kind root (BadPage n)
  blames_header depth n met none = (depth, met, λ sound. none sound.1.level sound.1.page.header)

  -- a page that isn't what it must be
  pub blames_page : (depth n : ℕ) → IsMetAt pages kind root depth n → ((level : Level) → IsPageOf pages kind level n → ⊥) → BlamesMet pages kind root (BadPage n)
  blames_page depth n met none = (depth, met, λ sound. none sound.1.level sound.1.page)

  -- a leaf without cells below the root
  pub blames_empty : (frames : List Frame) (n : ℕ) → LeadsTo pages kind root frames n → frames ≢ [] → HasHeader pages kind Leaf n → count_at pages n ≡ 0
      → BlamesMet pages kind root (BadPage n)
  blames_empty frames n leads some header none = (
    length frames + 1,
    leads.met,
    λ sound.
        let level : sound.1.level ≡ Leaf = same_level n sound.1.level Leaf sound.1.page.header header in
        let other : n ≢ root = (λ e. let l : Leaf ≡ Interior = same_level root Leaf Interior (subst (λ (x : ℕ). HasHeader pages kind Leaf x) e header) (root_interior leads.way some) in cc) in
        let cell : 0 < count_at pages n = sound.1.filled level other in
        omega (arith, none),
  )

  -- a page whose child isn't there
  pub blames_child : (depth n i : ℕ) → IsMetAt pages kind root depth n → HasHeader pages kind Interior n → i ≤ count_at pages n
      → (IsPageOf pages kind Interior n → IsNumber pages (child_at pages n i) → ⊥) → BlamesMet pages kind root (BadPage n)
  blames_child depth n i met header within none = (
    depth,
    met,
    λ sound.
        let level : sound.1.level ≡ Interior = same_level n sound.1.level Interior sound.1.page.header header in
        none (subst (λ (l : Level). IsPageOf pages kind l n) level sound.1.page) (sound.1.children level i within),
  )

  pub blames_depth : (frames : List Frame) (n : ℕ) → LeadsTo pages kind root frames n → 20 ≤ length frames → BlamesMet pages kind root (BadDepth root)
  blames_depth frames n leads deep = (refl, (length frames + 1, n, leads.met, omega arith))

  pub leads_first : (frames : List Frame) → frames ≡ [] → LeadsTo pages kind root frames root
  leads_first frames none =
      subst (λ (x : List Frame). LeadsTo pages kind root x root) (sym none) (record { way = nowhere; met = from_root; first = λ e. refl })

  -- down to a child of the page that is met at the end
  leads_below : (frames all : List Frame) (frame : Frame) (i m : ℕ) → IsWay pages kind root frames → HoldsMet pages kind root frames frame
      → IsNamedChild pages kind frame.number i m → all ≡ frames ++ (frame ∷ []) → LeadsTo pages kind root all m
  leads_below frames all frame i m way met named is =
      let long : length all ≡ length frames + 1 = ap length is ∙ length_push frames frame in
      let depth : suc (length frames + 1) ≡ length all + 1 = omega arith in
      record {
        way = further frame all way met is;
        met = subst (λ (k : ℕ). IsMetAt pages kind root k m) depth (by_name i met.met named);
        first = λ none. absurd (let l : length all ≡ 0 = ap length none in omega arith);
      }

  pub leads_down : (frames all : List Frame) (n : ℕ) (frame : Frame) (i m : ℕ) → LeadsTo pages kind root frames n → frame.number ≡ n → Holds pages frame
      → HasHeader pages kind Interior n → IsNamedChild pages kind frame.number i m → all ≡ frames ++ (frame ∷ []) → LeadsTo pages kind root all m
  leads_down frames all n frame i m leads number holds header named is =
      leads_below frames all frame i m leads.way
      (record {
        met = subst (λ (k : ℕ). IsMetAt pages kind root (length frames + 1) k) (sym number) leads.met;
        holds = holds;
        header = subst (λ (k : ℕ). HasHeader pages kind Interior k) (sym number) header;
        first = λ none. number ∙ leads.first none;
      })
      named is

  pub leads_next : (frames all : List Frame) (frame : Frame) (m : ℕ) → IsWay pages kind root frames → HoldsMet pages kind root frames frame
      → IsNamedChild pages kind frame.number (frame.at + 1) m
      → all ≡ frames ++ ((record frame { at = frame.at + 1 }) ∷ []) → LeadsTo pages kind root all m
  leads_next frames all frame m way met named is =
      leads_below frames all (record frame { at = frame.at + 1 }) (frame.at + 1) m way
      (record {
        met = met.met;
        holds = record { long = met.holds.long; page = met.holds.page; count = met.holds.count };
        header = met.header;
        first = met.first;
      })
      named is

  -- a cursor in a leaf
  pub reached_leaf : (frames : List Frame) (leaf : Frame) → leaf.level ≡ Leaf → IsWay pages kind root frames → StandsOn pages kind root leaf
      → HasReached pages kind root frames leaf
  reached_leaf frames leaf level way stands = record {
    way = way;
    met = λ interior. absurd (let e : Leaf ≡ Interior = sym level ∙ interior in cc);
    stands = stands;
  }

  -- a cursor on an interior page of an index, which is held among those above it
  pub reached_interior : (frames : List Frame) (here : Frame) → HasEntries kind Interior → EndsWith frames here → HasReached pages kind root frames here
  reached_interior frames here entries ends = record {
    way = ends.way;
    met = λ interior. ends.met;
    stands = record {
      depth = length frames + 1;
      level = Interior;
      met = ends.met.met;
      holds = ends.met.holds;
      header = ends.met.header;
      entries = entries;
    };
  }

-- a fault of the way down is one of a cursor, and one of a cursor is one of a step
pub cursor_fault : (root held : ℕ) (fault : Fault) → IsDescentFault root held fault → IsCursorFault root fault
cursor_fault root held ReadFailed h = tt
cursor_fault root held NoMemory h = tt
cursor_fault root held (BadPage n) h = tt
cursor_fault root held (BadDepth n) h = h.0
cursor_fault root held fault h = absurd h

pub step_fault : (cursor : Cursor) (fault : Fault) → IsCursorFault cursor.root fault → IsStepFault cursor fault
step_fault cursor Finished h = absurd h
step_fault cursor fault h = h
