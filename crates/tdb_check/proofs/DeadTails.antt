-- The dead records at the end of a chain, one by one from its end.
use Rattle.std.proofs.Common.{◌≡◌, ◌≢◌, ℕ, ◌≤◌, Bool, true, false, List, [], ◌∷◌, ◌++◌, Option, None, Some, eqb, refl, sym, ◌∙◌, ap, subst, inl, inr, arith}
use Rattle.std.specs.Prelude.{if◌then◌else◌, nat_eq, IsSome}
use Rattle.std.specs.List.{list_any}
use Rattle.std.proofs.lemmas.Bool.{cases_eq, cases_lt, eq-eqb, ne_eqb, lt-ltb, le-ltb, or_left, or_right}
use Rattle.std.proofs.lemmas.List.Folds.{list_any-append}
use Rattle.tdb_words.specs.declared.word.Order.{Order}
use Rattle.tdb_words.specs.declared.record.TheConstants.{USED}
use Rattle.tdb_space.specs.Form.{Form}
use Rattle.tdb_space.specs.Record.{IsChained, magic_of, next_of}
use Rattle.tdb_space.specs.Chain.{Member, Linked}
use Rattle.tdb_space.specs.Extents.{Extent as Held, times, extents, extent_at}
use Rattle.tdb_space.proofs.Chain.Walks.{member_cases, member_first, member_other}
use Rattle.tdb_check.specs.declared.extent.Extent.{Extent}
use Rattle.tdb_check.specs.declared.tails.Tails.{Tails}
use Rattle.tdb_check.specs.Extent.{extent_seen, extents_seen}
use Rattle.tdb_check.specs.Tails.{least_from, AllKept, lower_of, Dead, KnownTail, EndsAt, first_or, LeadsTo, Closing}

-- the last of some extents is that of the last record
split_last : (o : Order) (img : List ℕ) (es : List Extent) (e : Extent) (xs : List ℕ) → extents_seen (es ++ e ∷ []) ≡ extents o img xs → (ys : List ℕ) × (x : ℕ) × (xs ≡ ys ++ x ∷ []) × (extents_seen es ≡ extents o img ys) × (extent_seen e ≡ extent_at o img x)
split_last o img [] e [] h = absurd (cc)
split_last o img [] e (x ∷ []) h = let first : extent_seen e ≡ extent_at o img x = cc in ([], x, refl, refl, first)
split_last o img [] e (x ∷ y ∷ ys) h = absurd (cc)
split_last o img (d ∷ es) e [] h = absurd (cc)
split_last o img (d ∷ es) e (x ∷ xs) h =
    let first : extent_seen d ≡ extent_at o img x = cc in
    let others : extents_seen (es ++ e ∷ []) ≡ extents o img xs = cc in
    let (ys, y, parts, shown, last) = split_last o img es e xs others in
    (x ∷ ys, y, (λ j. x ∷ parts j), (λ j. first j ∷ shown j), last)

first_last : (ys : List ℕ) (x at : ℕ) → first_or at (ys ++ x ∷ []) ≡ first_or x ys
first_last [] x at = refl
first_last (y ∷ ys) x at = refl

leads_split : (f : Form) (img ys : List ℕ) (x at : ℕ) → LeadsTo f img (ys ++ x ∷ []) at → LeadsTo f img ys x × Dead f img x × (next_of f.order img x ≡ at)
leads_split f img [] x at h = (tt, h.0, h.1)
leads_split f img (y ∷ ys) x at h =
    let r = leads_split f img ys x at h.2 in
    ((h.0, h.1 ∙ first_last ys x at, r.0), r.1, r.2)

member_front : (z x : ℕ) (ys : List ℕ) → Member z ys → Member z (ys ++ x ∷ [])
member_front z x ys m = list_any-append (eqb z) ys (x ∷ []) ∙ or_left (list_any (eqb z) ys) (list_any (eqb z) (x ∷ [])) m

member_last : (x : ℕ) (ys : List ℕ) → Member x (ys ++ x ∷ [])
member_last x ys = list_any-append (eqb x) ys (x ∷ []) ∙ or_right (list_any (eqb x) ys) (list_any (eqb x) (x ∷ [])) (member_first x [])

-- a dead record in front of the end of a chain or of a known tail begins a known tail
known_more : (f : Form) (img : List ℕ) (seen : List Held) (x at : ℕ) (e : Extent) (rest : Option Extent) → Dead f img x → next_of f.order img x ≡ at → EndsAt f img seen at rest → extent_seen e ≡ extent_at f.order img x → 1 ≤ times seen x → KnownTail f img seen x (lower_of e rest)
known_more f img seen x at e None dead next ends is held =
    let off : e.off ≡ x = ap (λ (p : Held). p.0) is in
    record {
      xs = x ∷ [];
      linked = (refl, dead.whole, dead.chained, next ∙ ends);
      unused = λ z m. elim (member_cases z x [] m) [ inl here ↦ subst (λ y. magic_of f.order img y ≢ USED) (sym here) dead.unused | inr none ↦ absurd (no_member z none) ];
      member = subst (λ y. Member y (x ∷ [])) (sym off) (member_first x []);
      extent = is ∙ ap (extent_at f.order img) (sym off);
      low = λ z m. elim (member_cases z x [] m) [ inl here ↦ omega (arith, here, off) | inr none ↦ absurd (no_member z none) ];
      held = subst (λ y. 1 ≤ times seen y) (sym off) held;
    }
  where
    no_member : (z : ℕ) → Member z [] → ⊥
    no_member z h = cc
known_more f img seen x at e (Some o) dead next ends is held =
    let off : e.off ≡ x = ap (λ (p : Held). p.0) is in
    elim (cases_lt o.off e.off) [
      | inl below ↦ rw (lt-ltb o.off e.off below) (record {
        xs = x ∷ ends.xs;
        linked = (refl, dead.whole, dead.chained, subst (λ y. Linked f IsChained img y ends.xs) (sym next) ends.linked);
        unused = unused_all;
        member = member_other o.off x ends.xs ends.member;
        extent = ends.extent;
        low = λ z m. elim (member_cases z x ends.xs m) [ inl here ↦ omega (arith, here, off, below) | inr there ↦ ends.low z there ];
        held = ends.held;
      })
      | inr above ↦ rw (le-ltb o.off e.off above) (record {
        xs = x ∷ ends.xs;
        linked = (refl, dead.whole, dead.chained, subst (λ y. Linked f IsChained img y ends.xs) (sym next) ends.linked);
        unused = unused_all;
        member = subst (λ y. Member y (x ∷ ends.xs)) (sym off) (member_first x ends.xs);
        extent = is ∙ ap (extent_at f.order img) (sym off);
        low = λ z m. elim (member_cases z x ends.xs m) [ inl here ↦ omega (arith, here, off) | inr there ↦ omega (arith, ends.low z there, above) ];
        held = subst (λ y. 1 ≤ times seen y) (sym off) held;
      })
    ]
  where
    unused_all : (z : ℕ) → Member z (x ∷ ends.xs) → magic_of f.order img z ≢ USED
    unused_all z m = elim (member_cases z x ends.xs m) [ inl here ↦ subst (λ y. magic_of f.order img y ≢ USED) (sym here) dead.unused | inr there ↦ ends.unused z there ]

-- one record put down, from the end
pub closing_step : (f : Form) (img : List ℕ) (seen : List Held) (t t2 : Tails) (es : List Extent) (e : Extent) (rest : Option Extent) → Closing f img seen t (es ++ e ∷ []) rest → ((q : ℕ) → least_from t2 q ≡ (if nat_eq q e.off then Some (lower_of e rest) else least_from t q)) → Closing f img seen t2 es (Some (lower_of e rest))
closing_step f img seen t t2 es e rest h put =
    let s = split_last f.order img es e h.xs h.shown in
    let l = leads_split f img s.0 s.1 h.end (subst (λ zs. LeadsTo f img zs h.end) s.2 h.leads) in
    let held : 1 ≤ times seen s.1 = h.held s.1 (subst (Member s.1) (sym s.2) (member_last s.1 s.0)) in
    let known : KnownTail f img seen s.1 (lower_of e rest) = known_more f img seen s.1 h.end e rest l.1 l.2 h.ends s.4 held in
    let off : e.off ≡ s.1 = ap (λ (p : Held). p.0) s.4 in
    record {
      xs = s.0;
      end = s.1;
      leads = l.0;
      shown = s.3;
      ends = known;
      held = λ z m. h.held z (subst (Member z) (sym s.2) (member_front z s.1 s.0 m));
      tails = λ at least is. elim (cases_eq at e.off) [
        | inl same ↦
            let which : least ≡ lower_of e rest = some_same least (lower_of e rest) (sym is ∙ put at ∙ rw (eq-eqb at e.off same) refl) in
            subst (λ y. KnownTail f img seen y least) (sym (same ∙ off)) (subst (KnownTail f img seen s.1) (sym which) known)
        | inr apart ↦ h.tails at least (sym (put at ∙ rw (ne_eqb at e.off apart) refl) ∙ is)
      ];
    }
  where
    some_same : (a b : Extent) → Some a ≡ Some b → a ≡ b
    some_same a b e = cc

-- nothing that is there is missing
pub none_kept : (kept : Option Extent) (e : Extent) → kept ≡ None → kept ≡ Some e → ⊥
none_kept kept e none some = cc

-- what is kept of a record that is put down is there, and what was kept of another stays there
kept_at : (b : Bool) (x : Extent) (o : Option Extent) → IsSome o → IsSome (if b then Some x else o)
kept_at true x o h = refl
kept_at false x o h = h

pub kept_here : (old new : Tails) (at : ℕ) (x : Extent) → ((q : ℕ) → least_from new q ≡ (if nat_eq q at then Some x else least_from old q)) → IsSome (least_from new at)
kept_here old new at x more =
    let there : (if nat_eq at at then Some x else least_from old at) ≡ Some x = rw (eq-eqb at at refl) refl in
    subst IsSome (sym (more at ∙ there)) refl

pub kept_more : (old new : Tails) (at : ℕ) (x : Extent) (es : List Extent) → ((q : ℕ) → least_from new q ≡ (if nat_eq q at then Some x else least_from old q)) → AllKept old es → AllKept new es
kept_more old new at x [] more h = tt
kept_more old new at x (e ∷ es) more h =
    (subst IsSome (sym (more e.off)) (kept_at (nat_eq e.off at) x (least_from old e.off) h.0), kept_more old new at x es more h.1)
