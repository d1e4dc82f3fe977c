-- The text of replies, written piece by piece.
use Rattle.std.proofs.Common.{◌≡◌, ℕ, ◌+◌, ◌<◌, ◌≤◌, List, [], ◌++◌, length, length-append, take, append-nil, sym, ◌∙◌, ap, arith}
use Rattle.std.proofs.lemmas.List.{append_assoc, append_cancel_left, length-take-le, take_all, take-take, take-append-le}
use Rattle.std.proofs.Math.Seq.{take-append-add}
use Rattle.tdb_backup.specs.Dump.{WroteFront}

-- a text that was written whole, and one behind another
pub front_all : (before text now : List ℕ) → now ≡ before ++ text → WroteFront before text now
front_all before text now e = (length text, omega arith, e ∙ ap (λ t. before ++ t) (sym (take_whole text)))
  where
    take_whole : (t : List ℕ) → take (length t) t ≡ t
    take_whole t = take_all (length t) t (omega arith)

pub front_after : (before mid now one two : List ℕ) → mid ≡ before ++ one → WroteFront mid two now → WroteFront before (one ++ two) now
front_after before mid now one two e w =
    (length one + w.0, omega (arith, w.1, length-append one two), w.2 ∙ ap (λ m. m ++ take w.0 two) e ∙ append_assoc before one (take w.0 two) ∙ ap (λ t. before ++ t) (sym (take-append-add one two w.0)))

-- nothing was put behind a text
pub nothing_behind : (before more : List ℕ) → more ≡ [] → before ++ more ≡ before
nothing_behind before more none = ap (λ t. before ++ t) none ∙ append-nil before

-- all of one, behind an empty one, stands behind another
pub all_behind : (before empty text now : List ℕ) → empty ≡ [] → now ≡ empty ++ text → before ++ now ≡ before ++ text
all_behind before empty text now none all = ap (λ t. before ++ t) (all ∙ ap (λ t. t ++ text) none)

-- or was written of one
pub front_none : (before text now : List ℕ) → now ≡ before → WroteFront before text now
front_none before text now same = (0, omega arith, same ∙ sym (append-nil before))

-- a front of a text is one of more
pub front_of_more : (before text more now : List ℕ) → WroteFront before text now → WroteFront before (text ++ more) now
front_of_more before text more now w = (w.0, omega (arith, w.1, length-append text more), w.2 ∙ ap (λ t. before ++ t) (sym (take-append-le w.0 text more w.1)))

-- A front of a text was written, but for what was held of it; of that a front is written.
pub front_of_held : (before done written held text now : List ℕ) → written ≡ before ++ done → WroteFront before text (written ++ held) → WroteFront written held now → WroteFront before text now
front_of_held before done written held text now e w v =
    let all : done ++ held ≡ take w.0 text = append_cancel_left before (done ++ held) (take w.0 text) (sym (append_assoc before done held) ∙ ap (λ t. t ++ held) (sym e) ∙ w.2) in
    let long : length done + length held ≡ w.0 = sym (length-append done held) ∙ ap length all ∙ length-take-le w.0 text w.1 in
    let within : length done + v.0 ≤ w.0 = omega (arith, long, v.1) in (
      length done + v.0,
      omega (arith, within, w.1),
      v.2 ∙ ap (λ t. t ++ take v.0 held) e ∙ append_assoc before done (take v.0 held)
          ∙ ap (λ t. before ++ t) (sym (take-append-add done held v.0) ∙ ap (take (length done + v.0)) all ∙ take-take (length done + v.0) w.0 text within),
    )
