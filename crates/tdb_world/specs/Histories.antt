-- How the logic stores the history of a disk: the bytes at first, and the calls since.
use Rattle.std.specs.Prelude.{ℕ, ◌≡◌, ◌⊎◌, List, [], ◌∷◌, refl}
use Rattle.std.specs.Coded.{Coded, code_by, coded_ℕ, coded_list, coded×, coded⊎}
use Rattle.std.proofs.Common.{ap, inl, inr}
use Rattle.tdb_disk.specs.History.{Event, wrote, wrote_word, grew, cut, synced, History, began, called}
use base.Stored.{coded_unit}

-- a call is stored as its kind with its place and its bytes, or its length
abbrev pub Parts : Type 0
Parts = (ℕ × List ℕ) ⊎ ((ℕ × List ℕ) ⊎ (ℕ ⊎ (ℕ ⊎ Unit {0})))

abbrev pub parts_code : Coded Parts
parts_code = coded⊎ (coded× coded_ℕ (coded_list coded_ℕ)) (coded⊎ (coded× coded_ℕ (coded_list coded_ℕ)) (coded⊎ coded_ℕ (coded⊎ coded_ℕ coded_unit)))

-- a call as these parts, and the call that they are
abbrev pub event_parts : Event → Parts
event_parts (wrote at bytes) = inl (at, bytes)
event_parts (wrote_word at bytes) = inr (inl (at, bytes))
event_parts (grew to) = inr (inr (inl to))
event_parts (cut to) = inr (inr (inr (inl to)))
event_parts synced = inr (inr (inr (inr tt)))

abbrev pub event_of : Parts → Event
event_of (inl p) = wrote p.0 p.1
event_of (inr (inl p)) = wrote_word p.0 p.1
event_of (inr (inr (inl to))) = grew to
event_of (inr (inr (inr (inl to)))) = cut to
event_of (inr (inr (inr (inr u)))) = synced

pub event_of-parts : (e : Event) → event_of (event_parts e) ≡ e
event_of-parts (wrote at bytes) = refl
event_of-parts (wrote_word at bytes) = refl
event_of-parts (grew to) = refl
event_of-parts (cut to) = refl
event_of-parts synced = refl

abbrev pub event_code : Coded Event
event_code = code_by Parts parts_code event_parts event_of event_of-parts

-- a history is stored as the bytes at first and the calls since, the last in front
abbrev pub first_bytes : History → List ℕ
first_bytes (began bytes) = bytes
first_bytes (called h event) = first_bytes h

abbrev pub events : History → List Event
events (began bytes) = []
events (called h event) = event ∷ events h

abbrev pub history_of : List ℕ → List Event → History
history_of bytes [] = began bytes
history_of bytes (event ∷ more) = called (history_of bytes more) event

pub history_of-events : (h : History) → history_of (first_bytes h) (events h) ≡ h
history_of-events (began bytes) = refl
history_of-events (called h event) = ap (λ (k : History). called k event) (history_of-events h)

abbrev pub history_code : Coded History
history_code =
    code_by (List ℕ × List Event) (coded× (coded_list coded_ℕ) (coded_list event_code)) (λ h. (first_bytes h, events h)) (λ p. history_of p.0 p.1) history_of-events
