-- What the stages of a check say of the image.
use Rattle.std.proofs.Common.{◌≡◌, ℕ, List, ◌++◌, append-nil, sum_by, sym, ap, subst, inl, inr, arith}
use Rattle.tdb_space.specs.Form.{form_of, data_start}
use Rattle.tdb_space.specs.Accepted.{Accept}
use Rattle.tdb_space.specs.Extents.{Extent as Held, times, area}
use Rattle.tdb_space.specs.FirstFault.{Fault, HeadsSound, ListsSound, IsFirstFault, in_chain, in_free_list, at_overlap, at_stray, extents_of}
use Rattle.tdb_space.proofs.FirstFault.Agreed.{no_fault_accepted}
use Rattle.tdb_space.proofs.Extents.Counts.{times-append}
use Rattle.tdb_check.specs.declared.lists.Listed.{Listed}
use Rattle.tdb_check.specs.Chains.{Shows}
use Rattle.tdb_check.specs.Extent.{extents_seen}
use Rattle.tdb_check.specs.Lists.{ListsFollowed, FirstInLists, listed_extents}
use Rattle.tdb_check.specs.Report.{Counted}
use Rattle.tdb_check.specs.Stray.{FirstAmong, shared, stray, NoFaultAmong}
use Rattle.tdb_check.proofs.Among.{shows_more, shown_first, shown_none}

pub lists_first : (img : List ℕ) (e : Fault) → HeadsSound img → FirstInLists (form_of img) img e → IsFirstFault img e
lists_first img e heads (inl (j, low, before, h)) = in_chain e j heads low before h
lists_first img e heads (inr (chains, h)) = in_free_list e heads chains h

lists_sound : (img : List ℕ) (l : Listed) → HeadsSound img → ListsFollowed (form_of img) img l → ListsSound img
lists_sound img l heads h = record { heads = heads; chains = h.chains; frees = h.frees }

-- the extents of the lists and of the undo area show which bytes of the image are held
all_shown : (img : List ℕ) (l : Listed) (seen : List Held) → ListsFollowed (form_of img) img l → seen ≡ extents_seen l.extents.items ++ area (form_of img).order img → Shows seen (extents_of img)
all_shown img l seen h is =
    subst (λ es. Shows es (extents_of img)) (sym is)
    (subst (Shows (extents_seen l.extents.items ++ area (form_of img).order img)) (sym (append-nil (listed_extents (form_of img) img ++ area (form_of img).order img)))
    (shows_more (extents_seen l.extents.items) (listed_extents (form_of img) img) (area (form_of img).order img) h.shows))

first_held : (img : List ℕ) (e : Fault) → ListsSound img → FirstAmong (extents_of img) (data_start (form_of img)) img e → IsFirstFault img e
first_held img _ lists (shared at f) = at_overlap at lists f
first_held img _ lists (stray at apart f) = at_stray at lists apart f

pub extents_first : (img : List ℕ) (l : Listed) (seen : List Held) (e : Fault) → HeadsSound img → ListsFollowed (form_of img) img l → seen ≡ extents_seen l.extents.items ++ area (form_of img).order img → FirstAmong seen (data_start (form_of img)) img e → IsFirstFault img e
extents_first img l seen e heads h is f =
    first_held img e (lists_sound img l heads h) (shown_first seen (extents_of img) (data_start (form_of img)) img e (all_shown img l seen h is) f)

pub all_accepted : (img : List ℕ) (l : Listed) (seen : List Held) (n a : ℕ) → HeadsSound img → ListsFollowed (form_of img) img l → seen ≡ extents_seen l.extents.items ++ area (form_of img).order img → NoFaultAmong seen (data_start (form_of img)) img n → a ≡ sum_by (λ e. e.1) (area (form_of img).order img)
    → Accept img × Counted img (record { live = l.live; dead_records = l.dead; free_records = l.free; dead_bytes = n; area = a })
all_accepted img l seen n a heads h is f long =
    let all = shown_none seen (extents_of img) (data_start (form_of img)) img n (all_shown img l seen h is) f in (
      no_fault_accepted img (record { lists = lists_sound img l heads h; apart = all.apart; clean = all.clean }),
      record {
        live = h.live;
        dead_records = h.dead (λ i. omega (arith, f.apart i, ap (λ es. times es i) is, times-append (extents_seen l.extents.items) (area (form_of img).order img) i));
        free_records = h.free;
        dead_bytes = all.count;
        area = long;
      },
    )
