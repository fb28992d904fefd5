-- What the worked examples compute with: name it in an `unfolding` line.
use Rattle.market.specs.Problems.{kind_of, quota_of, bar_of, list_of, order_of, ranks_of, turn_of, rank_of, admits}
use Rattle.market.specs.Dictatorships.{has_seat, list_at, first_open, with_next, picks, choice, choices, seats_taken}
use Rattle.market.specs.Mechanism.{is_offered, turn_list, type_dictatorship, tentative, has_several, is_taken, best_place, next_cut, next_cuts, whole_cuts, cuts_after, several_count, is_settled, settled_from, entry_count, cutting_rounds, best_programme, best_programmes, mechanism_placement, mechanism_rounds, mechanism_cuts, turns_of_round, mechanism, best_in, cut_in, cuts_in, has_several_in, several_in}
use Rattle.market.specs.Reruns.{is_cut_away, first_changed, first_run, round_turns, placement_turns}

-- nothing but a name for what is unfolded
unfoldable pub computes : Unit {0}
unfolding has_seat list_at first_open with_next picks choice choices seats_taken kind_of quota_of bar_of list_of order_of ranks_of turn_of rank_of admits is_offered turn_list type_dictatorship tentative has_several has_several_in is_taken best_place best_in next_cut cut_in next_cuts cuts_in whole_cuts cuts_after several_count several_in is_settled settled_from entry_count cutting_rounds best_programme best_programmes mechanism_placement mechanism_rounds mechanism_cuts turns_of_round mechanism is_cut_away first_changed first_run round_turns placement_turns
computes = tt
