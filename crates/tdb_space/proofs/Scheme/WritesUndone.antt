-- What a commit writes once its gate is open is undone.
use Rattle.std.proofs.Common.{◌≡◌, ℕ, ◌+◌, List, length, Option, refl, sym, ◌∙◌, ap, subst, inl, inr, arith}
use Rattle.std.specs.Prelude.{◌%◌}
use Rattle.std.proofs.lemmas.Bool.{cases_lt}
use Rattle.tdb_disk.specs.Stop.{Torn}
use Rattle.tdb_space.specs.Form.{Form, form_of}
use Rattle.tdb_space.specs.Record.{rec_len_of, key_len_of}
use Rattle.tdb_space.specs.Extents.{times}
use Rattle.tdb_space.specs.Accepted.{Accept}
use Rattle.tdb_space.specs.Opening.{Undoable, OpensTo, Mild}
use Rattle.tdb_space.specs.Undoing.{area_end, old_size, UndoneAlike, Reopens}
use Rattle.tdb_space.specs.Gate.{gate_opened, IsReadyToOpen}
use Rattle.tdb_space.specs.Scheme.{Scheme, Within, MayWrite, IsPlanFor, StaysWithin}
use Rattle.tdb_space.proofs.Opening.Undone.{old_length}
use Rattle.tdb_space.proofs.Undoing.Alike.{alike_opens_to, reopens_alike}
use Rattle.tdb_space.proofs.Gate.OpenGate.{gate_keeps, own_form}

pub within_itself : (p : Scheme) (a : List ℕ) → Within p a a
within_itself p a = record { size = refl; others = λ i _ _. refl; area_bytes = λ i _ _. refl }

pub within_further : (p : Scheme) (base a c : List ℕ) → Within p base a → Within p a c → Within p base c
within_further p base a c w v = record {
  size = v.size ∙ w.size;
  others = λ i low none. v.others i low none ∙ w.others i low none;
  area_bytes = λ i from to. v.area_bytes i from to ∙ w.area_bytes i from to;
}

-- a write where the plan may write, done or torn
pub within_torn : (p : Scheme) (base a c : List ℕ) (at n : ℕ) → MayWrite p at (at + n) → Within p base a → Torn at n a c → Within p base c
within_torn p base a c at n may w t = within_further p base a c w (record {
  size = t.size;
  others = λ i low none.
      elim (cases_lt i at) [
        | inl before ↦ t.below i before
        | inr from ↦
            elim (cases_lt i (at + n)) [
              | inr past ↦ t.above i past
              | inl to ↦ elim (may i from to).0 [ inl some ↦ absurd (omega (arith, some, none)) | inr behind ↦ absurd (omega (arith, behind, low)) ]
            ]
      ];
  area_bytes = λ i high below.
      elim (cases_lt i at) [
        | inl before ↦ t.below i before
        | inr from ↦
            elim (cases_lt i (at + n)) [
              | inr past ↦ t.above i past
              | inl to ↦ elim (may i from to).1 [ inl under ↦ absurd (omega (arith, under, high)) | inr over ↦ absurd (omega (arith, over, below)) ]
            ]
      ];
})

pub stays_within : (p : Scheme) (base : List ℕ) → StaysWithin p base
stays_within p base = record { itself = within_itself p base; further = within_further p base; torn = within_torn p base }

-- no entry covers a byte outside the runs for nothing: so what is within is undone alike
pub runs_alike : (f : Form) (p : Scheme) (a c : List ℕ) → length a % 4 ≡ 0 → Undoable f a → IsPlanFor f p a → Within p a c → UndoneAlike f a c
runs_alike f p a c words u fits w =
    let old = old_length f a u in
    let old_same : old_size f a ≡ p.old_length = ap (key_len_of f.order a) fits.there ∙ fits.old_length in
    let end_same : area_end f a ≡ p.area + p.area_length = (let len = ap (rec_len_of f.order a) fits.there in omega (arith, fits.there, fits.area_length, len)) in
    record {
      sized = ap (λ n. n % 4) w.size ∙ words;
      reach = omega (arith, w.size, old.within);
      room = omega (arith, w.size, u.in_place.within);
      area_bytes = λ i from to. w.area_bytes i (omega (arith, from, fits.there)) (omega (arith, to, end_same));
      front = λ i where_at. w.others i (elim where_at [ inl low ↦ omega (arith, low, old.above, old_same) | inr high ↦ omega (arith, high.1, old.above, old_same) ]) (fits.front i where_at);
      others = λ i low none.
          w.others i (omega (arith, low, old_same)) (elim (cases_lt 0 (times p.runs i)) [ inl some ↦ absurd (fits.covered i (omega (arith, some)) none) | inr out ↦ omega (arith, out) ]);
    }

pub runs_undone : (p : Scheme) (a c : List ℕ) (m : List ℕ → Option (List ℕ)) → OpensTo a m → Undoable (form_of a) a → IsPlanFor (form_of a) p a → Within p a c → OpensTo c m
runs_undone p a c m h u fits w = alike_opens_to a c m h u (runs_alike (form_of a) p a c h.opens.sized u fits w)

pub runs_reopen : (r a c : List ℕ) (p : Scheme) → Reopens r a → Mild a → IsPlanFor (form_of a) p a → Within p a c → Reopens r c
runs_reopen r a c p h m fits w = reopens_alike r a c h m (runs_alike (form_of a) p a c h.opens.opens.sized m.undoable fits w)

pub opened_reopens : (a c : List ℕ) (p : Scheme) → Accept a → IsReadyToOpen (form_of a) a → IsPlanFor (form_of a) p (gate_opened (form_of a) a) → Within p (gate_opened (form_of a) a) c → Reopens a c
opened_reopens a c p A ready fits w =
    let keeps = gate_keeps a A ready in
    runs_reopen a (gate_opened (form_of a) a) c p keeps.1 keeps.0 (subst (λ f. IsPlanFor f p (gate_opened (form_of a) a)) (sym (own_form a A ready)) fits) w
