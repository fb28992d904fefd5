-- When a seat may make an event, and on which word.
use Rattle.std.specs.Prelude.{◌≡◌, ℕ}
use Rattle.market.specs.Dictatorships.{Dictatorship}
use Rattle.interleaving_core.specs.declared.events.CoreEvent.{CoreEvent}
use Rattle.interleaving_core.specs.Core.{turn_count, entry}
use Rattle.interleaving_core.specs.Events.{Action, Claims, ReadsFlags, Reads, Posts, Takes, Looks, Weighs, Seats, Raises, Seals, Releases, event_of, IsAllowed}
use Rattle.word_rule.specs.declared.layout.TheConstants.{CLAIM_WORD, MARK_WORD}
use Rattle.word_rule.specs.Layout.{programme_count, seat_word, cell_word, flag_word}
use Rattle.word_rule.specs.Views.{SeatMe}

-- the word that an event is made on: the claim word or the mark; the seat count or the word of
-- flags of the entry in question; or the turn's cell
abbrev pub word_of : Dictatorship → Action → ℕ
word_of d Claims = CLAIM_WORD
word_of d (ReadsFlags k j) = flag_word (programme_count d) (turn_count d) (entry d k j)
word_of d (Reads k j) = seat_word (entry d k j)
word_of d (Posts k j looked met) = cell_word (programme_count d) k
word_of d Takes = MARK_WORD
word_of d (Looks c) = cell_word (programme_count d) c
word_of d (Weighs c j) = seat_word (entry d c j)
word_of d (Seats c j) = seat_word (entry d c j)
word_of d (Raises c j) = flag_word (programme_count d) (turn_count d) (entry d c j)
word_of d (Seals c j phase) = cell_word (programme_count d) c
word_of d (Releases c phase) = MARK_WORD

-- the event's condition holds in the seat's view, with what it finds there, and the step is made on
-- the event's own word
pub record MayMake (m : SeatMe) (event : CoreEvent) (word : ℕ) : Type 0 where
  pub action : Action
  pub is : event_of action ≡ event
  pub allowed : IsAllowed m.0.dict m.0.core action
  pub on : word ≡ word_of m.0.dict action
