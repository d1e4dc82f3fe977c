-- The walk along the free list to the records that are sought, link by link, and each way out of it.
use Rattle.std.proofs.Common.{◌≡◌, ℕ, ◌+◌, ◌≤◌, true, false, List, [], ◌∷◌, length, Option, Some, None, refl, sym, ◌∙◌, ap, subst, inl, inr, arith}
use Rattle.std.specs.Prelude.{◌/◌, ◌%◌, ◌&&◌, is_some, is_none, IfSome, if◌then◌else◌}
use Rattle.std.proofs.lemmas.Bool.{cases_eq, eq-eqb, ne_eqb, true≢false, false≢true}
use Rattle.tdb_words.specs.Word.{word}
use Rattle.tdb_space.specs.Form.{Form, data_start, free_head}
use Rattle.tdb_space.specs.Record.{Whole, rec_len_of}
use Rattle.tdb_space.specs.Chain.{Free, Leads}
use Rattle.tdb_free.specs.FreeList.{free_pairs, starts_at}
use Rattle.tdb_free.specs.Search.{count_before}
use Rattle.tdb_free.specs.Walk.{IsLed, IsUpTo, LinkWithin, known_at}
use Rattle.tdb_free.specs.declared.walk.Link.{Link}
use Rattle.tdb_free.proofs.Passed.{Passed, passed_start, passed_end, passed_more, passed_all}

-- So many records of the list were passed, and the word at `before` leads on from `at`: the record that is sought
-- wasn't met yet, or this is the link to it.
abbrev pub Seen : Form → List ℕ → List ℕ → Option ℕ → Option Link → ℕ → ℕ → ℕ → Type 0
Seen f img offs None known turns before at = known ≡ None
Seen f img offs (Some off) None turns before at = Passed f img offs (starts_at off) turns before at
Seen f img offs (Some off) (Some k) turns before at = (k.at ≡ off) × Leads free_head offs k.before k.at

module _ (f : Form) (img offs : List ℕ) where
  pub seen_start : (sought : Option ℕ) (at : ℕ) → Free f img at offs → Seen f img offs sought None 0 free_head at
  seen_start None at list = refl
  seen_start (Some off) at list = passed_start f img offs (starts_at off) at list

  -- where no record can stand, the list ends
  pub seen_end : (sought : Option ℕ) (known : Option Link) (turns before at : ℕ) → Seen f img offs sought known turns before at → (Whole f img at → ⊥) → IsLed f img offs sought known
  seen_end None known turns before at seen never = seen
  seen_end (Some off) None turns before at seen never = passed_end f img offs (starts_at off) turns before at seen never
  seen_end (Some off) (Some k) turns before at seen never = seen

  -- as many records were passed as the image has words
  pub seen_all : (sought : Option ℕ) (known : Option Link) (turns before at : ℕ) → Seen f img offs sought known turns before at → length img / 4 ≤ turns → IsLed f img offs sought known
  seen_all None known turns before at seen all = seen
  seen_all (Some off) None turns before at seen all = passed_all f img offs (starts_at off) turns before at seen all
  seen_all (Some off) (Some k) turns before at seen all = seen

  -- nothing is sought, or the link to it is known
  pub seen_met : (sought : Option ℕ) (known : Option Link) (turns before at : ℕ) → Seen f img offs sought known turns before at → (is_some sought && is_none known) ≡ false → IsLed f img offs sought known
  seen_met None known turns before at seen met = seen
  seen_met (Some off) None turns before at seen met = absurd (true≢false met)
  seen_met (Some off) (Some k) turns before at seen met = seen

  -- something is sought, and no more records were passed than stand in front of it
  pub seen_far : (sought : Option ℕ) (known : Option Link) (turns before at most : ℕ) → Seen f img offs sought known turns before at → (is_some sought && is_none known) ≡ true → IsUpTo f img offs sought most
      → turns ≤ most
  seen_far None known turns before at most seen missing up_to = absurd (false≢true missing)
  seen_far (Some off) None turns before at most seen missing up_to = omega (arith, seen.count, up_to)
  seen_far (Some off) (Some k) turns before at most seen missing up_to = absurd (false≢true missing)

  -- a record at which the walk stands is led to by the word before it
  led_here : (off turns before at : ℕ) → Passed f img offs (starts_at off) turns before at → data_start f ≤ at → Leads free_head offs before at
  led_here off turns before at p above = here p.rest p.list p.leads
    where
      here : (rest : List ℕ) → Free f img at rest → ((b y : ℕ) → Leads before rest b y → Leads free_head offs b y) → Leads free_head offs before at
      here [] list leads = absurd (omega (arith, list, above))
      here (x ∷ xs) list leads = leads before at (inl (refl, sym list.0))

  -- one record more
  pub seen_more : (sought : Option ℕ) (known : Option Link) (turns : ℕ) (here : Link) (next : ℕ) → Seen f img offs sought known turns here.before here.at → data_start f ≤ here.at → next ≡ word f.order img here.at
      → Seen f img offs sought (known_at sought known here) (turns + 1) here.at next
  seen_more None None turns here next seen above leads_on = refl
  seen_more None (Some k) turns here next seen above leads_on = seen
  seen_more (Some off) (Some k) turns here next seen above leads_on = seen
  seen_more (Some off) None turns here next seen above leads_on =
      elim (cases_eq off here.at) [
        | inl e ↦
            subst (λ b. Seen f img offs (Some off) (if b then Some here else None) (turns + 1) here.at next) (sym (eq-eqb off here.at e))
            (sym e, led_here off turns here.before here.at seen above)
        | inr ne ↦
            subst (λ b. Seen f img offs (Some off) (if b then Some here else None) (turns + 1) here.at next) (sym (ne_eqb off here.at ne))
            (passed_more f img offs (starts_at off) turns here.before here.at seen next above leads_on (ne_eqb here.at off (λ e. ne (sym e))))
      ]

-- a link that is known leads to what is sought
pub within_more : (len : ℕ) (sought : Option ℕ) (known : Option Link) (here : Link) → IfSome known (λ k. LinkWithin len sought k) → here.before % 4 ≡ 0 → here.before + 4 ≤ len
    → IfSome (known_at sought known here) (λ k. LinkWithin len sought k)
within_more len sought (Some k) here within aligned led = within
within_more len None None here within aligned led = within
within_more len (Some off) None here within aligned led =
    elim (cases_eq off here.at) [
      | inl e ↦
          subst (λ b. IfSome (if b then Some here else None) (λ k. LinkWithin len (Some off) k)) (sym (eq-eqb off here.at e))
          (record { aligned = aligned; led = led; leads_there = ap (λ x. Some x) e })
      | inr ne ↦ subst (λ b. IfSome (if b then Some here else None) (λ k. LinkWithin len (Some off) k)) (sym (ne_eqb off here.at ne)) within
    ]
