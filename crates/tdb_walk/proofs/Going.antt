-- The keys that are further on, as live records that are left.
use Rattle.std.proofs.Common.{◌≡◌, ℕ, ◌≤◌, List, [], ◌∷◌, Bool, true, false, cond, Some, None, refl, sym, ◌∙◌, ap, inl, inr, arith}
use Rattle.std.specs.Prelude.{◌&&◌, ◌||◌}
use Rattle.std.proofs.lemmas.Bool.{cases_eq, cases_lt, eq-eqb, ne_eqb, lt-ltb, le-ltb, le-leb, lt-leb}
use Rattle.tdb_space.specs.Form.{Form}
use Rattle.tdb_space.specs.Pairs.{home}
use Rattle.tdb_space.proofs.Pairs.Maps.{home_below}
use Rattle.tdb_law.specs.Openers.{is_key}
use Rattle.tdb_law.specs.Layout.{Cell, Chains, Place, live_in, ahead_of, reached_of}
use Rattle.tdb_law.specs.Layout.Place.{off_chains, before_chain, on_record}
use Rattle.tdb_walk.specs.NextLive.{first_live, left_in, NoneLive}
use Rattle.tdb_walk.specs.Laws.{AheadIsLeft, EndsRightly, BlocksRightly, IsUnentered}
use Rattle.tdb_walk.proofs.Ahead.{none_some, left_before, passed_before}

-- without a live record there is none with a key
pub none_live : (cs : List Cell) (k : List ℕ) → first_live cs ≡ None → live_in cs k ≡ false
none_live [] k e = refl
none_live (c ∷ cs) k e = go c.live (λ later. none_live cs k later) e
  where
    go : (b : Bool) → (first_live cs ≡ None → live_in cs k ≡ false) → cond b (Some c) (first_live cs) ≡ None → (b && is_key c.key k) || live_in cs k ≡ false
    go true rest e = absurd (none_some (sym e))
    go false rest e = rest e

pub ahead_is_left : AheadIsLeft
ahead_is_left f cs off_chains k = refl
ahead_is_left f cs (before_chain i) k =
    elim (cases_lt (home f k) i) [
      | inl early ↦ rw (lt-leb i (home f k) early, lt-ltb (home f k) i early) refl
      | inr late ↦ rw (le-leb i (home f k) late, le-ltb (home f k) i late) refl
    ]
ahead_is_left f cs (on_record i p) k =
    elim (cases_eq (home f k) i) [
      | inl here ↦ rw (eq-eqb (home f k) i here) refl
      | inr apart ↦ elim (cases_lt (home f k) i) [
        | inl early ↦ rw (ne_eqb (home f k) i apart, lt-ltb (home f k) i early, le-ltb i (home f k) (omega (arith, early))) refl
        | inr late ↦ rw (ne_eqb (home f k) i apart, le-ltb (home f k) i late, lt-ltb i (home f k) (omega (arith, late, apart))) refl
      ]
    ]

pub ends_rightly : EndsRightly
ends_rightly f cs place k some none = ahead_is_left f cs place k ∙ none_live (left_in cs place (home f k)) k (none (home f k) (home_below f k some))

-- what is left of a chain that isn't entered is all of it
pub unentered_left : (cs : Chains) (place : Place) (n j : ℕ) → IsUnentered place n → n ≤ j → left_in cs place j ≡ cs j
unentered_left cs off_chains n j never late = absurd never
unentered_left cs (before_chain i) n j un late = left_before cs i j (omega (arith, un, late))
unentered_left cs (on_record i p) n j un late = rw (ne_eqb j i (λ e. absurd (omega (arith, e, un, late))), le-ltb j i (omega (arith, un, late))) refl

pub unentered_reached : (place : Place) (n : ℕ) → IsUnentered place n → reached_of place ≤ n
unentered_reached off_chains n never = absurd never
unentered_reached (before_chain i) n un = un
unentered_reached (on_record i p) n un = un

-- a key is further on before the chain exactly where it was so
same_ahead : (f : Form) (cs : Chains) (place : Place) (n : ℕ) → IsUnentered place n → NoneLive cs place n → (k : List ℕ) → ahead_of f cs (before_chain n) k ≡ ahead_of f cs place k
same_ahead f cs place n un none k =
    ahead_is_left f cs (before_chain n) k ∙ middle ∙ sym (ahead_is_left f cs place k)
  where
    middle : live_in (left_in cs (before_chain n) (home f k)) k ≡ live_in (left_in cs place (home f k)) k
    middle = elim (cases_lt (home f k) n) [
      | inl early ↦ ap (λ xs. live_in xs k) (passed_before cs n (home f k) early) ∙ sym (none_live (left_in cs place (home f k)) k (none (home f k) early))
      | inr late ↦ ap (λ xs. live_in xs k) (left_before cs n (home f k) late ∙ sym (unentered_left cs place n (home f k) un late))
    ]

pub blocks_rightly : BlocksRightly
blocks_rightly f cs place n un none = record {
  reached = unentered_reached place n un;
  fewer = λ k e. sym (same_ahead f cs place n un none k) ∙ e;
  kept = λ k e. inr (same_ahead f cs place n un none k ∙ e);
}
