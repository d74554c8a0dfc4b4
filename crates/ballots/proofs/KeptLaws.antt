-- Whatever happens to an instance, it stays kept, its decision stays, and what is decided is one of the offers.
use Rattle.std.specs.Prelude.{◌≡◌, ℕ, ◌+◌, ◌<◌, ◌≤◌, ◌≢◌, Bool, true, false, not, ◌&&◌, ◌||◌, ◌==◌, ◌⊎◌, if◌then◌else◌, List, [], ◌∷◌, ◌++◌, length, replicate, slice_set, get_or, Option, Some, None, is_some, refl}
use Rattle.std.proofs.Common.{◌∙◌, inl, inr, ⊎_elim, arith}
use Rattle.std.proofs.lemmas.Bool.{cases_eq}
use Rattle.std.proofs.lemmas.Bool.Decides.{nat_tests}
use Rattle.std.proofs.lemmas.List.{get_or-replicate, get_or_past, get_or-set_same, get_or-set_other, length-set, length-replicate}
use Rattle.std.proofs.lemmas.List.Folds.{list_any_at}
use Rattle.std.proofs.lemmas.Option.{slice_get-get_or}
use Rattle.chooser.specs.Meaning.{one_of}
use Rattle.quorum.specs.Sets.{everyone}
use Rattle.ballots.specs.declared.instance.Acceptor.{Acceptor}
use Rattle.ballots.specs.declared.instance.Instance.{Instance}
use Rattle.ballots.specs.Limits.{acceptors, owner, last_ballot}
use Rattle.ballots.specs.Board.{Each, Meet}
use Rattle.ballots.proofs.Safety.{moves_keep_sound, fixing_keeps_sound, counting_keeps_sound, counting_keeps_decision, counted_is_fixed, offering_keeps_sound, decided_is_offered}
use Rattle.ballots.specs.Instance.{fresh, blank, acceptor_at, value_at, highest_accepted, sole, promise_by, value_for, fix_step, accept_by, count_step, work_step, within, after_work, or_same}
use Rattle.ballots.specs.Kept.{board, Kept, StaysKept}
use Rattle.ballots.proofs.Members.{promised_by_each, accepted_by_each, accepted_below_highest, highest_accepted_passes}

-- Copies of the default are the default at any place, also past their end.
copies_everywhere : {X : Type 0} (count place : ℕ) (copy : X) → get_or (replicate count copy) place copy ≡ copy
copies_everywhere count place copy = grind (arith, get_or-replicate count place copy copy, get_or_past (replicate count copy) place copy, length-replicate count copy)

-- At the start no ballot has a value.
blank_has_no_value : (ballot v : ℕ) → value_at blank ballot ≡ Some v → ⊥
blank_has_no_value ballot v fixed = cc (copies_everywhere {X = Option ℕ} (last_ballot + 1) ballot None)

-- At the start nobody has promised or accepted anything, no ballot has a value, and nothing is decided.
pub blank_is_kept : (fixing counting : ℕ → Bool) → Kept fixing counting [] blank
blank_is_kept fixing counting =
    let is_fresh : (a : ℕ) → acceptor_at blank a ≡ fresh = λ a. copies_everywhere acceptors a fresh in
    record {
      five = refl;
      sixteen = refl;
      sound = record {
        accepted_is_promised = λ a. grind (arith, is_fresh a);
        accepted_is_fixed = λ a. grind (arith, is_fresh a);
        zero_is_no_ballot = refl;
        promised_has_offer = λ a. grind (arith, is_fresh a);
        fixed_has_offer = λ b v fixed. absurd (blank_has_no_value b v fixed);
        value_is_offered = λ b v fixed. absurd (blank_has_no_value b v fixed);
        fixed_is_backed = λ b v fixed. absurd (blank_has_no_value b v fixed);
        passed_over_is_dead = λ b higher v w before fixed. absurd (blank_has_no_value b v fixed);
        decided_is_chosen = λ v decided. cc;
      };
    }

-- A step that is allowed leaves what it says.
allowed_step : (allowed : Bool) (after y : Instance) → (if allowed then Some after else None) ≡ Some y → (allowed ≡ true) × (after ≡ y)
allowed_step allowed after y is = grind arith

-- A fix asks for three things at once.
fix_conditions : (value : Option ℕ) (promised wins : Bool) → (not (is_some value) && (promised && wins)) ≡ true → (value ≡ None) × (promised ≡ true) × (wins ≡ true)
fix_conditions value promised wins allowed = grind arith

-- A set that has one acceptor has one of the five.
sole_is_below : (set acceptor : ℕ) → sole set ≡ Some acceptor → acceptor < acceptors
sole_is_below set acceptor is = grind arith

-- The instance with one acceptor as it has become.
abbrev with_acceptor : Instance → ℕ → Acceptor → Instance
with_acceptor x place becomes = record x { acceptors = slice_set x.acceptors place becomes }

-- What is chosen by a number from 1 to 4 and is there is one of the four.
one_of_four : (step : ℕ) (one two three four : Option Instance) (y : Instance)
    → (if step == 1 then one else if step == 2 then two else if step == 3 then three else if step == 4 then four else None) ≡ Some y
    → (one ≡ Some y) ⊎ (((step ≡ 2) × (two ≡ Some y)) ⊎ ((three ≡ Some y) ⊎ ((step ≡ 4) × (four ≡ Some y))))
one_of_four step one two three four y is = grind arith

module _ (x : Instance) (offers : List ℕ) (ballot set : ℕ) (wins : Bool) (y : Instance) where
  -- A promise changes an acceptor only.
  promise_keeps_rest : (chosen : Option ℕ) → promise_by x offers ballot chosen ≡ Some y → (y.values ≡ x.values) × (y.decision ≡ x.decision)
  promise_keeps_rest chosen is = grind arith

  -- An accept changes an acceptor only.
  accept_keeps_rest : (chosen : Option ℕ) → accept_by x ballot chosen ≡ Some y → (y.values ≡ x.values) × (y.decision ≡ x.decision)
  accept_keeps_rest chosen is = grind arith

  -- A fix changes one ballot, which had no value.
  fix_keeps_rest : fix_step x offers ballot set wins ≡ Some y → ((b v : ℕ) → value_at x b ≡ Some v → value_at y b ≡ Some v) × (y.decision ≡ x.decision)
  fix_keeps_rest is = (λ b v had. grind (arith, get_or-set_other x.values ballot b (value_for x offers ballot set) None), grind arith)

  -- Work that is taken is one of the four steps.
  four_steps : (step : ℕ) → work_step x offers step ballot set wins ≡ Some y
      → (promise_by x offers ballot (sole set) ≡ Some y) ⊎ (((step ≡ 2) × (fix_step x offers ballot set wins ≡ Some y)) ⊎ ((accept_by x ballot (sole set) ≡ Some y) ⊎ ((step ≡ 4) × (count_step x ballot set wins ≡ Some y))))
  four_steps step is = one_of_four step (promise_by x offers ballot (sole set)) (fix_step x offers ballot set wins) (accept_by x ballot (sole set)) (count_step x ballot set wins) y is

  -- A ballot's value stays: only a fix gives one, to a ballot that had none.
  pub work_keeps_values : (step : ℕ) → work_step x offers step ballot set wins ≡ Some y → (b v : ℕ) → value_at x b ≡ Some v → value_at y b ≡ Some v
  work_keeps_values step is b v had =
      grind (arith, promise_keeps_rest (sole set), fix_keeps_rest, accept_keeps_rest (sole set))

module _ {fixing counting : ℕ → Bool} {offers : List ℕ} {x : Instance} (kept : Kept fixing counting offers x) where
  -- One more offer changes nothing else.
  pub offering_is_kept : (value : ℕ) → Kept fixing counting (offers ++ (value ∷ [])) x
  offering_is_kept value = record {
    five = kept.five;
    sixteen = kept.sixteen;
    sound = offering_keeps_sound fixing counting (board x offers) kept.sound value;
  }

  -- Only values of ballots are decided, and these are offers.
  pub decided_is_among : (v : ℕ) → x.decision ≡ Some v → one_of offers v ≡ true
  decided_is_among = decided_is_offered fixing counting (board x offers) kept.sound

  -- One acceptor becomes another, as it may move.
  module _ (place : ℕ) (becomes : Acceptor) (below : place < acceptors) (promises : (acceptor_at x place).promised ≤ becomes.promised)
      (accepts : (becomes.accepted ≡ (acceptor_at x place).accepted)
      ⊎ ((becomes.accepted ≡ becomes.promised) × (is_some (value_at x becomes.accepted) ≡ true) × ((acceptor_at x place).promised ≤ becomes.accepted)))
      (has_offer : owner becomes.promised < length offers) where
    -- The acceptor itself is what it becomes, and another is as before.
    becomes_or_same : (a : ℕ)
        → ((a ≡ place) × (acceptor_at (with_acceptor x place becomes) a ≡ becomes)) ⊎ (acceptor_at (with_acceptor x place becomes) a ≡ acceptor_at x a)
    becomes_or_same a = grind (arith, get_or-set_same x.acceptors place becomes fresh, get_or-set_other x.acceptors place a becomes fresh)

    -- The acceptor moves as it may, and another stays.
    moving_is_kept : Kept fixing counting offers (with_acceptor x place becomes)
    moving_is_kept = record {
      five = length-set x.acceptors place becomes ∙ kept.five;
      sixteen = kept.sixteen;
      sound = moves_keep_sound fixing counting (board x offers) kept.sound _ _ (λ a. record {
        promise_grows = grind (arith, becomes_or_same a);
        accepts = grind (arith, becomes_or_same a);
        has_offer = grind (arith, becomes_or_same a);
      });
    }

  -- A promise moves one acceptor to a higher ballot whose offer exists.
  promise_is_kept : (ballot : ℕ) (y : Instance) (chosen : Option ℕ) → ((place : ℕ) → chosen ≡ Some place → place < acceptors)
      → promise_by x offers ballot chosen ≡ Some y → Kept fixing counting offers y
  promise_is_kept ballot y None below is = cc
  promise_is_kept ballot y (Some place) below is =
      let (allowed, after) = allowed_step _ _ y is in
      rw (← after) (moving_is_kept place _ (below place refl) (grind arith) (inl refl) (grind arith))

  -- An accept moves one acceptor to a fixed ballot, whose offer exists, not below its promise.
  accept_is_kept : (ballot : ℕ) (y : Instance) (chosen : Option ℕ) → ((place : ℕ) → chosen ≡ Some place → place < acceptors)
      → accept_by x ballot chosen ≡ Some y → Kept fixing counting offers y
  accept_is_kept ballot y None below is = cc
  accept_is_kept ballot y (Some place) below is =
      let (allowed, after) = allowed_step _ _ y is in
      rw (← after) (moving_is_kept place _ (below place refl) (grind arith) (inr (refl, grind arith, grind arith)) (grind arith))

  -- Each acceptor accepted nothing or a fixed ballot, so the highest of these is none or fixed.
  highest_is_fixed : (set : ℕ) → highest_accepted x set ≢ 0 → is_some (value_at x (highest_accepted x set)) ≡ true
  highest_is_fixed set some = grind (
    arith,
    highest_accepted_passes x kept.five set (λ b. (b == 0) || is_some (value_at x b)) refl (λ a. grind arith),
  )

  -- A fix of a ballot whose offer exists finds a value: that of the highest ballot accepted, or else that offer.
  fix_finds_value : (ballot set : ℕ) → owner ballot < length offers
      → (v : ℕ) × (value_for x offers ballot set ≡ Some v) × (highest_accepted x set ≢ 0 → value_at x (highest_accepted x set) ≡ Some v) × (one_of offers v ≡ true)
  fix_finds_value ballot set has_offer = ⊎_elim
      (λ none. (
        get_or offers (owner ballot) 0,
        grind (arith, slice_get-get_or offers (owner ballot) 0),
        (λ some. absurd (some none)),
        list_any_at (λ offer. offer == get_or offers (owner ballot) 0) offers (owner ballot) 0 has_offer (grind arith),
      ))
      (λ some. let (v, had) : (v : ℕ) × (value_at x (highest_accepted x set) ≡ Some v) = grind (arith, highest_is_fixed set some) in
      (v, grind arith, (λ _. had), kept.sound.value_is_offered (highest_accepted x set) v had))
      (cases_eq (highest_accepted x set) 0)

  module _ (meet : Meet fixing counting) (all_fix : fixing (everyone acceptors) ≡ true) (all_count : counting (everyone acceptors) ≡ true)
      (ballot set : ℕ) (wins : Bool) (step : ℕ) (fixes : step ≡ 2 → wins ≡ true → fixing set ≡ true) (counts : step ≡ 4 → wins ≡ true → counting set ≡ true)
      (low : 1 ≤ ballot) (high : ballot ≤ last_ballot) (y : Instance) where
    -- The fixing set shares an acceptor with everyone: it has promised the ballot, so the ballot's offer exists.
    promised_has_offer : fixing set ≡ true → Each set (λ a. (acceptor_at x a).promised ≡ ballot) → owner ballot < length offers
    promised_has_offer fixes promised =
        let (a, below, inside, present) = meet set (everyone acceptors) fixes all_count in
        rw (promised a below inside) at (kept.sound.promised_has_offer a (λ zero. omega arith))

    -- A fix gives one ballot a value, as the safety of fixing asks.
    fix_is_kept : step ≡ 2 → fix_step x offers ballot set wins ≡ Some y → Kept fixing counting offers y
    fix_is_kept is_fix is =
        let (allowed, after) = allowed_step _ _ y is in
        let (unfixed, all, won) = fix_conditions _ _ wins allowed in
        let promised = promised_by_each x kept.five set ballot all in
        let has_offer = promised_has_offer (fixes is_fix won) promised in
        let (v, value, takes_over, offered) = fix_finds_value ballot set has_offer in
        rw (← after) (record {
          five = kept.five;
          sixteen = length-set x.values ballot (value_for x offers ballot set) ∙ kept.sixteen;
          sound = fixing_keeps_sound fixing counting (board x offers) kept.sound meet ballot v set (highest_accepted x set) _
              (λ zero. omega arith) unfixed (fixes is_fix won) promised (accepted_below_highest x kept.five set) takes_over offered has_offer
              (get_or-set_same x.values ballot (value_for x offers ballot set) None (omega arith) ∙ value)
              (λ b other. get_or-set_other x.values ballot b (value_for x offers ballot set) None other);
        })

    -- The ballot that is fixed has a value.
    pub fixed_has_value : step ≡ 2 → fix_step x offers ballot set wins ≡ Some y → (v : ℕ) × (value_at y ballot ≡ Some v)
    fixed_has_value is_fix is =
        let (allowed, after) = allowed_step _ _ y is in
        let (unfixed, all, won) = fix_conditions _ _ wins allowed in
        let promised = promised_by_each x kept.five set ballot all in
        let (v, value, takes_over, offered) = fix_finds_value ballot set (promised_has_offer (fixes is_fix won) promised) in
        let sixteen : length x.values ≡ last_ballot + 1 = kept.sixteen in
        rw (← after) (v, get_or-set_same x.values ballot (value_for x offers ballot set) None (omega arith) ∙ value)

    -- A count is of a ballot that a counting set accepted, and decides its value.
    count_conditions : step ≡ 4 → count_step x ballot set wins ≡ Some y
        → (record x { decision = value_at x ballot } ≡ y) × (counting set ≡ true) × Each set (λ a. (acceptor_at x a).accepted ≡ ballot)
    count_conditions is_count is =
        (grind arith, grind (arith, counts is_count), accepted_by_each x kept.five set ballot (grind arith))

    -- Only the decision changes, as the safety of counting asks.
    count_is_kept : step ≡ 4 → count_step x ballot set wins ≡ Some y → Kept fixing counting offers y
    count_is_kept is_count is =
        let (after, counted, accepted) = count_conditions is_count is in
        let sound = counting_keeps_sound fixing counting (board x offers) kept.sound meet all_fix ballot set (λ zero. omega arith) counted accepted in
        rw (← after) (record { five = kept.five; sixteen = kept.sixteen; sound = sound })

    -- The ballot that is counted is fixed.
    pub counted_is_decided : step ≡ 4 → count_step x ballot set wins ≡ Some y → (v : ℕ) × (value_at y ballot ≡ Some v) × (y.decision ≡ Some v)
    counted_is_decided is_count is =
        let (after, counted, accepted) = count_conditions is_count is in
        let (v, value) = counted_is_fixed fixing counting (board x offers) kept.sound meet all_fix ballot set (λ zero. omega arith) counted accepted in
        rw (← after) (v, value, value)

    -- The ballot that is counted has the value that was decided.
    count_keeps_decision : step ≡ 4 → count_step x ballot set wins ≡ Some y → (v : ℕ) → x.decision ≡ Some v → y.decision ≡ Some v
    count_keeps_decision is_count is v decided =
        let (after, counted, accepted) = count_conditions is_count is in
        rw (← after) (counting_keeps_decision fixing counting (board x offers) kept.sound meet all_fix ballot set (λ zero. omega arith) counted accepted v decided)

    -- Each of the four steps leaves the instance kept.
    pub work_is_kept : work_step x offers step ballot set wins ≡ Some y → Kept fixing counting offers y
    work_is_kept is =
        ⊎_elim (promise_is_kept ballot y (sole set) (sole_is_below set))
        (⊎_elim (λ (two, fixed). fix_is_kept two fixed)
        (⊎_elim (accept_is_kept ballot y (sole set) (sole_is_below set)) (λ (four, counted). count_is_kept four counted)))
        (four_steps x offers ballot set wins y step is)

    -- Only a count changes the decision, and it decides what was decided.
    pub work_keeps_decision : work_step x offers step ballot set wins ≡ Some y → (v : ℕ) → x.decision ≡ Some v → y.decision ≡ Some v
    work_keeps_decision is v decided =
        ⊎_elim (λ promised. (promise_keeps_rest x offers ballot set wins y (sole set) promised).1 ∙ decided)
        (⊎_elim (λ (two, fixed). (fix_keeps_rest x offers ballot set wins y fixed).1 ∙ decided)
        (⊎_elim (λ accepted. (accept_keeps_rest x offers ballot set wins y (sole set) accepted).1 ∙ decided)
        (λ (four, counted). count_keeps_decision four counted v decided)))
        (four_steps x offers ballot set wins y step is)

-- What is taken under a condition is taken, and the condition holds.
under : (holds : Bool) (outcome : Option Instance) (y : Instance) → (if holds then outcome else None) ≡ Some y → (holds ≡ true) × (outcome ≡ Some y)
under true outcome y is = (refl, is)
under false outcome y is = absurd cc

-- Work that is taken is a step on a ballot from 1 to 15.
pub after_work_is : (x : Instance) (offers : List ℕ) (step ballot set : ℕ) (wins : Bool) (y : Instance) → after_work x offers step ballot set wins ≡ Some y
    → (1 ≤ ballot) × (ballot ≤ last_ballot) × (work_step x offers step ballot set wins ≡ Some y)
after_work_is x offers step ballot set wins y is =
    let (is_within, step_is) = under (within ballot set) _ y is in
    (grind (arith, nat_tests), grind (arith, nat_tests), step_is)

-- So work keeps the instance, whether it is taken or not.
pub work_stays_kept : (x : Instance) (offers : List ℕ) (step ballot set : ℕ) (wins : Bool) (outcome : Option Instance) → after_work x offers step ballot set wins ≡ outcome
    → StaysKept x offers step set wins (or_same outcome x)
work_stays_kept x offers step ballot set wins None is fixing counting meet all_fix all_count fixes counts kept = kept
work_stays_kept x offers step ballot set wins (Some y) is fixing counting meet all_fix all_count fixes counts kept =
    let (low, high, step_is) = after_work_is x offers step ballot set wins y is in
    work_is_kept kept meet all_fix all_count ballot set wins step fixes counts low high y step_is
