-- The worked examples, by computation. Assumes nothing.
use Rattle.std.proofs.Common.{◌≡◌, ℕ, ◌+◌, Bool, true, false, cond, ◌∷◌, replicate, Some, None, refl, ap, ◌∙◌, arith}
use Rattle.std.proofs.lemmas.Bool.{false_from_ne_true}
use Rattle.guides.specs.Ranks.{longest_first, fewest_broken}
use Rattle.words.specs.Bits.{bit}
use Rattle.clauses.specs.Values.{truths}
use Rattle.clauses.specs.Clauses.{bar}
use Rattle.clauses.specs.Sets.{set_of}
use Rattle.clauses.specs.Words.{signs}
use Rattle.clause_laws.specs.Examples.{not_one, not_two}
use Rattle.clause_laws.proofs.Critical.{critical_on_nothing}
use Rattle.steps.specs.Rows.{row}
use Rattle.steps.specs.Flips.{flips}
use Rattle.steps.specs.Writing.{learnt, barred, swept}
use Rattle.steps.specs.Moves.{move}
use Rattle.steps.specs.Examples.{moves}
use Rattle.histories.specs.Tallies.{same_ranks}
use Rattle.histories.specs.Worked.{Worked}
use Rattle.histories.proofs.Ranks.{ranks_agree, agree_ranks}

-- from no steps, whatever ranks were held
steps_of : (b : Bool) (k : ℕ) → cond b 0 0 + k ≡ k
steps_of true k = omega arith
steps_of false k = omega arith

-- one line of length 1 ranks higher under longest first
other_ranks : same_ranks (Some longest_first) fewest_broken ≡ false
other_ranks = false_from_ne_true _ (λ e. let z : ◌≡◌ {A = ℕ} 65537 1 = ranks_agree longest_first fewest_broken e (0 ∷ 1 ∷ replicate 63 0) (refl, omega arith) in omega arith)

pub worked : Worked
unfolding bit truths bar set_of signs row flips learnt barred swept move moves
worked = record {
  number_words = record {
    negative = refl;
    nought = refl;
    largest = refl;
    minus_nought = refl;
    leading_nought = refl;
    minus_alone = refl;
    plus = refl;
    six_digits = refl;
    no_bytes = refl;
  };
  sound_texts = record {
    two = (refl, refl);
    two_places = refl;
    one_line = (refl, refl);
    many_lines = (refl, refl);
    tabs = (refl, refl);
    nothing = (refl, refl);
    empty_clause = (refl, refl);
    empty_place = refl;
    cnf_line = (refl, refl);
    most_variables = (refl, refl);
    head = refl;
  };
  long_clauses = record {
    ended = (refl, refl);
    one_more = (refl, refl);
    above = (refl, refl);
    no_number = (refl, refl);
  };
  faulty_texts = record {
    above = (refl, refl);
    word_after = (refl, refl);
    many_variables = (refl, refl);
    comment_after_p = (refl, refl);
    no_bytes = (refl, refl);
    comment_alone = (refl, refl);
    no_comment = (refl, refl);
    large_c = (refl, refl);
    percent = (refl, refl);
    cr_in_comment = (refl, refl);
    negative_size = (refl, refl);
    many_clauses = (refl, refl);
    most_clauses = (refl, refl);
    leading_nought = (refl, refl);
    comment_late = (refl, refl);
    six_digits = (refl, refl);
    long_word = (refl, refl);
    vertical_tab = (refl, refl);
    odd_bytes = (refl, refl);
    ends_inside = (refl, refl);
    ends_inside_second = (refl, refl);
    ends_before = (refl, refl);
    any_word_after = (refl, refl);
    head = refl;
  };
  resolving = record {
    one_clash = refl;
    one_resolvent = refl;
    two_clashes = refl;
    no_resolvent = refl;
  };
  becoming = record {
    both_ways = refl;
    one_way = refl;
    each_once = refl;
    length_two = refl;
    up_to_one = refl;
    above_one = refl;
    no_number = refl;
  };
  judging = record {
    on_one = refl;
    not_on_two = refl;
    on_nothing = λ l. critical_on_nothing _ l _ not_one not_two refl refl refl refl;
    all_false = refl;
    one_unset = refl;
    barred = refl;
  };
  edges = record {
    ends_of_words = refl;
    longest = refl;
    within_all = refl;
    above_all = refl;
    last_named = refl;
    next_named = refl;
    longest_bar = refl;
    nothing_held = refl;
    nothing_broken = refl;
    nothing_met = refl;
    shortest_bar = refl;
  };
  reading_off = (refl, refl, refl);
  ranking = (refl, refl, refl, refl, refl, refl);
  seven_moves = (refl, refl, refl);
  constant_guide = (refl, refl, refl, refl, refl, refl);
  reversed_guide = (refl, refl, refl, refl);
  ties = (refl, refl, refl, refl, refl, refl, refl);
  rows = record {
    entries = refl;
    empty = refl;
    ones = refl;
    twos = refl;
    threes = refl;
    longest = refl;
    over_two = refl;
  };
  pairs = record {
    clash_twice = refl;
    none = refl;
    alone = refl;
    order = refl;
  };
  in_the_book = (refl, refl, refl);
  no_line = refl;
  no_clauses = refl;
  empty_clause = refl;
  seven = refl;
  nine_lines = refl;
  nine_keep = refl;
  six_and_one = refl;
  eight_places = refl;
  one_step = refl;
  one_step_leaves = refl;
  each = refl;
  tallied = refl;
  accepted = refl;
  places = refl;
  most_variables = refl;
  one_variable = refl;
  most_places = refl;
  most_literals = refl;
  first_unopened = refl;
  first_opened = refl;
  refusals = refl;
  load_refusals = refl;
  no_place_added = refl;
  no_place_loaded = refl;
  not_refused = refl;
  ended_none = refl;
  ended_spent = refl;
  ended_full = refl;
  ended_met = refl;
  verdicts = refl;
  steps_run = steps_of (same_ranks None longest_first) 7;
  steps_on = ap (λ (b : Bool). cond b (cond (same_ranks None longest_first) 0 0 + 6) 0 + 1) (agree_ranks longest_first longest_first (λ cs f. refl)) ∙ ap (λ (k : ℕ). k + 1) (steps_of (same_ranks None longest_first) 6);
  steps_added = refl;
  steps_restarted = refl;
  steps_other = ap (λ (b : Bool). cond b (cond (same_ranks None longest_first) 0 0 + 6) 0 + 0) other_ranks;
  steps_refused = steps_of (same_ranks None longest_first) 7;
}
