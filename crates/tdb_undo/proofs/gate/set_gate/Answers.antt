-- The gate word, and its sync.
use Rattle.std.proofs.Common.{◌≡◌, ◌+◌, ◌⊎◌, take, drop, length, refl, sym, subst, ◌∙◌, ap, inl, arith}
use Rattle.std.proofs.lemmas.Bool.{MatchBool-at_false}
use Rattle.tdb_disk.specs.History.{seen, called, wrote_word, Tried}
use Rattle.tdb_disk.specs.Stop.{LeavesOnly}
use Rattle.tdb_disk.proofs.Runs.{leaves_quiet, quiet_synced}
use Rattle.tdb_words.specs.Word.{word}
use Rattle.tdb_words.proofs.Words.{word_of_part}
use Rattle.tdb_space.specs.Form.{form_in}
use Rattle.tdb_space.specs.Standing.{HeaderStands}
use Rattle.tdb_space.specs.Undoing.{area_at}
use Rattle.tdb_space.specs.Gate.{with_gate_word}
use Rattle.tdb_undo.proofs.Gates.{gate_one, gate_two, gate_seen}
use Rattle.tdb_undo.proofs.gate.set_gate.Goals as goal

pub returns-in_err-len-clause-stops : goal.returns-in_err-len-clause-stops
returns-in_err-len-clause-stops g c told quiet has =
    subst (λ m. LeavesOnly (g.D.Disk.history c.args.d.now) m (λ x. (x ≡ (seen (g.D.Disk.history c.args.d.now))) ⊎ (x ≡ with_gate_word c.args.gate (form_in c.args.h.now) (seen (g.D.Disk.history c.args.d.now))))) (sym c.len.ensures.history) (leaves_quiet (g.D.Disk.history c.args.d.now) (λ x. (x ≡ (seen (g.D.Disk.history c.args.d.now))) ⊎ (x ≡ with_gate_word c.args.gate (form_in c.args.h.now) (seen (g.D.Disk.history c.args.d.now)))) quiet (inl refl))

pub returns-in_err-read-clause-stops : goal.returns-in_err-read-clause-stops
returns-in_err-read-clause-stops g c told quiet has =
    subst (λ m. LeavesOnly (g.D.Disk.history c.args.d.now) m (λ x. (x ≡ (seen (g.D.Disk.history c.args.d.now))) ⊎ (x ≡ with_gate_word c.args.gate (form_in c.args.h.now) (seen (g.D.Disk.history c.args.d.now))))) (sym (c.read.ensures.history ∙ c.len.ensures.history)) (leaves_quiet (g.D.Disk.history c.args.d.now) (λ x. (x ≡ (seen (g.D.Disk.history c.args.d.now))) ⊎ (x ≡ with_gate_word c.args.gate (form_in c.args.h.now) (seen (g.D.Disk.history c.args.d.now)))) quiet (inl refl))

pub returns-in_err-write_word-clause-stops : goal.returns-in_err-write_word-clause-stops
returns-in_err-write_word-clause-stops g c told quiet has =
    gate_one (form_in c.args.h.now) (g.D.Disk.history c.args.d.now) (g.D.Disk.history c.write_word.new.self) (g.D.Disk.history c.write_word.new.self) c.args.gate c.word_bytes.result c.word_bytes.ensures.bytes quiet (subst (λ m. Tried (wrote_word (area_at (form_in c.args.h.now) (seen (g.D.Disk.history c.args.d.now)) + 20) c.word_bytes.result) m (g.D.Disk.history c.write_word.new.self)) (c.read.ensures.history ∙ c.len.ensures.history) (subst (λ p. Tried (wrote_word (p + 20) c.word_bytes.result) (g.D.Disk.history c.read.new.self) (g.D.Disk.history c.write_word.new.self)) (let bytes : c.read.new.buf ≡ take 4 (drop 44 (seen (g.D.Disk.history c.args.d.now))) = c.in_ok-read.ensures.bytes told ∙ ap (λ m. take 4 (drop 44 (seen m))) c.len.ensures.history in let is : c.word_at-at.result ≡ area_at (form_in c.args.h.now) (seen (g.D.Disk.history c.args.d.now)) = c.word_at-at.ensures ∙ ap (λ b. word c.args.h.now.order b 0) bytes ∙ word_of_part c.args.h.now.order (seen (g.D.Disk.history c.args.d.now)) 44 4 0 (omega arith) in is) c.write_word.ensures.tried))

pub returns-in_err-sync-clause-stops : goal.returns-in_err-sync-clause-stops
returns-in_err-sync-clause-stops g c told quiet has =
    gate_two (form_in c.args.h.now) (g.D.Disk.history c.args.d.now) (g.D.Disk.history c.write_word.new.self) (g.D.Disk.history c.sync.new.self) c.args.gate c.word_bytes.result c.word_bytes.ensures.bytes quiet (c.in_ok-write_word.ensures.done told ∙ (λ j. called ((c.read.ensures.history ∙ c.len.ensures.history) j) (wrote_word ((let bytes : c.read.new.buf ≡ take 4 (drop 44 (seen (g.D.Disk.history c.args.d.now))) = c.in_ok-read.ensures.bytes told ∙ ap (λ m. take 4 (drop 44 (seen m))) c.len.ensures.history in let is : c.word_at-at.result ≡ area_at (form_in c.args.h.now) (seen (g.D.Disk.history c.args.d.now)) = c.word_at-at.ensures ∙ ap (λ b. word c.args.h.now.order b 0) bytes ∙ word_of_part c.args.h.now.order (seen (g.D.Disk.history c.args.d.now)) 44 4 0 (omega arith) in is) j + 20) c.word_bytes.result))) c.sync.ensures.tried

pub returns-clause-stops : goal.returns-clause-stops
returns-clause-stops g c told quiet has =
    gate_two (form_in c.args.h.now) (g.D.Disk.history c.args.d.now) (g.D.Disk.history c.write_word.new.self) (g.D.Disk.history c.sync.new.self) c.args.gate c.word_bytes.result c.word_bytes.ensures.bytes quiet (c.in_ok-write_word.ensures.done told ∙ (λ j. called ((c.read.ensures.history ∙ c.len.ensures.history) j) (wrote_word ((let bytes : c.read.new.buf ≡ take 4 (drop 44 (seen (g.D.Disk.history c.args.d.now))) = c.in_ok-read.ensures.bytes told ∙ ap (λ m. take 4 (drop 44 (seen m))) c.len.ensures.history in let is : c.word_at-at.result ≡ area_at (form_in c.args.h.now) (seen (g.D.Disk.history c.args.d.now)) = c.word_at-at.ensures ∙ ap (λ b. word c.args.h.now.order b 0) bytes ∙ word_of_part c.args.h.now.order (seen (g.D.Disk.history c.args.d.now)) 44 4 0 (omega arith) in is) j + 20) c.word_bytes.result))) c.sync.ensures.tried

pub returns-clause-set : goal.returns-clause-set
returns-clause-set g c told has =
    gate_seen (form_in c.args.h.now) (g.D.Disk.history c.args.d.now) (g.D.Disk.history c.write_word.new.self) (g.D.Disk.history c.sync.new.self) c.args.gate c.word_bytes.result c.word_bytes.ensures.bytes (c.in_ok-write_word.ensures.done told ∙ (λ j. called ((c.read.ensures.history ∙ c.len.ensures.history) j) (wrote_word ((let bytes : c.read.new.buf ≡ take 4 (drop 44 (seen (g.D.Disk.history c.args.d.now))) = c.in_ok-read.ensures.bytes told ∙ ap (λ m. take 4 (drop 44 (seen m))) c.len.ensures.history in let is : c.word_at-at.result ≡ area_at (form_in c.args.h.now) (seen (g.D.Disk.history c.args.d.now)) = c.word_at-at.ensures ∙ ap (λ b. word c.args.h.now.order b 0) bytes ∙ word_of_part c.args.h.now.order (seen (g.D.Disk.history c.args.d.now)) 44 4 0 (omega arith) in is) j + 20) c.word_bytes.result))) (c.in_ok-sync.ensures.done told)

pub returns-clause-quiet : goal.returns-clause-quiet
returns-clause-quiet g c told has =
    quiet_synced _ _ (c.in_ok-sync.ensures.done told)

pub returns-then-not-header_stands-clause-stops : goal.returns-then-not-header_stands-clause-stops
returns-then-not-header_stands-clause-stops g c told quiet has =
    absurd (MatchBool-at_false _ _ c.if-not-header_stands.true c.header_stands.ensures (subst (λ n. HeaderStands c.args.h.now.hash_size n c.word_at-at.result) (g.met.D.Disk.told_size c.args.d.now told ∙ sym c.in_ok-len.ensures.length) (subst (λ x. HeaderStands c.args.h.now.hash_size (length (seen (g.D.Disk.history c.args.d.now))) x) (sym (let bytes : c.read.new.buf ≡ take 4 (drop 44 (seen (g.D.Disk.history c.args.d.now))) = c.in_ok-read.ensures.bytes told ∙ ap (λ m. take 4 (drop 44 (seen m))) c.len.ensures.history in let is : c.word_at-at.result ≡ area_at (form_in c.args.h.now) (seen (g.D.Disk.history c.args.d.now)) = c.word_at-at.ensures ∙ ap (λ b. word c.args.h.now.order b 0) bytes ∙ word_of_part c.args.h.now.order (seen (g.D.Disk.history c.args.d.now)) 44 4 0 (omega arith) in is)) has)))

pub returns-then-not-header_stands-clause-set : goal.returns-then-not-header_stands-clause-set
returns-then-not-header_stands-clause-set g c told has =
    absurd (MatchBool-at_false _ _ c.if-not-header_stands.true c.header_stands.ensures (subst (λ n. HeaderStands c.args.h.now.hash_size n c.word_at-at.result) (g.met.D.Disk.told_size c.args.d.now told ∙ sym c.in_ok-len.ensures.length) (subst (λ x. HeaderStands c.args.h.now.hash_size (length (seen (g.D.Disk.history c.args.d.now))) x) (sym (let bytes : c.read.new.buf ≡ take 4 (drop 44 (seen (g.D.Disk.history c.args.d.now))) = c.in_ok-read.ensures.bytes told ∙ ap (λ m. take 4 (drop 44 (seen m))) c.len.ensures.history in let is : c.word_at-at.result ≡ area_at (form_in c.args.h.now) (seen (g.D.Disk.history c.args.d.now)) = c.word_at-at.ensures ∙ ap (λ b. word c.args.h.now.order b 0) bytes ∙ word_of_part c.args.h.now.order (seen (g.D.Disk.history c.args.d.now)) 44 4 0 (omega arith) in is)) has)))

pub returns-then-not-header_stands-clause-quiet : goal.returns-then-not-header_stands-clause-quiet
returns-then-not-header_stands-clause-quiet g c told has =
    absurd (MatchBool-at_false _ _ c.if-not-header_stands.true c.header_stands.ensures (subst (λ n. HeaderStands c.args.h.now.hash_size n c.word_at-at.result) (g.met.D.Disk.told_size c.args.d.now told ∙ sym c.in_ok-len.ensures.length) (subst (λ x. HeaderStands c.args.h.now.hash_size (length (seen (g.D.Disk.history c.args.d.now))) x) (sym (let bytes : c.read.new.buf ≡ take 4 (drop 44 (seen (g.D.Disk.history c.args.d.now))) = c.in_ok-read.ensures.bytes told ∙ ap (λ m. take 4 (drop 44 (seen m))) c.len.ensures.history in let is : c.word_at-at.result ≡ area_at (form_in c.args.h.now) (seen (g.D.Disk.history c.args.d.now)) = c.word_at-at.ensures ∙ ap (λ b. word c.args.h.now.order b 0) bytes ∙ word_of_part c.args.h.now.order (seen (g.D.Disk.history c.args.d.now)) 44 4 0 (omega arith) in is)) has)))

pub returns-then-not-header_stands-clause-syncs : goal.returns-then-not-header_stands-clause-syncs
returns-then-not-header_stands-clause-syncs g c told has =
    absurd (MatchBool-at_false _ _ c.if-not-header_stands.true c.header_stands.ensures (subst (λ n. HeaderStands c.args.h.now.hash_size n c.word_at-at.result) (g.met.D.Disk.told_size c.args.d.now told ∙ sym c.in_ok-len.ensures.length) (subst (λ x. HeaderStands c.args.h.now.hash_size (length (seen (g.D.Disk.history c.args.d.now))) x) (sym (let bytes : c.read.new.buf ≡ take 4 (drop 44 (seen (g.D.Disk.history c.args.d.now))) = c.in_ok-read.ensures.bytes told ∙ ap (λ m. take 4 (drop 44 (seen m))) c.len.ensures.history in let is : c.word_at-at.result ≡ area_at (form_in c.args.h.now) (seen (g.D.Disk.history c.args.d.now)) = c.word_at-at.ensures ∙ ap (λ b. word c.args.h.now.order b 0) bytes ∙ word_of_part c.args.h.now.order (seen (g.D.Disk.history c.args.d.now)) 44 4 0 (omega arith) in is)) has)))
