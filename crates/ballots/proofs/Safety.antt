-- Each step keeps a sound board sound.
use Rattle.std.specs.Prelude.{◌≡◌, ◌⊎◌, List, ℕ, ◌<◌, ◌≤◌, ◌≢◌, Bool, true, [], ◌∷◌, ◌++◌, length, Option, Some, None, is_some, refl}
use Rattle.std.proofs.Common.{sym, ◌∙◌, ⊎_elim, arith}
use Rattle.std.proofs.lemmas.Bool.{cases_eq, cases_lt}
use Rattle.std.proofs.lemmas.List.{length_push}
use Rattle.std.proofs.lemmas.List.Folds.{list_any-append}
use Rattle.chooser.specs.Meaning.{one_of}
use Rattle.quorum.specs.Sets.{everyone}
use Rattle.ballots.specs.Limits.{acceptors, owner}
use Rattle.ballots.specs.Board.{Board, Each, Meet, Dead, Backed, Chosen, Sound}

-- The board after a step: one field is another.
abbrev pub with_acceptors : Board → (ℕ → ℕ) → (ℕ → ℕ) → Board
with_acceptors x promised accepted = record { promised = promised; accepted = accepted; value = x.value; offers = x.offers; decision = x.decision }

abbrev pub with_value : Board → (ℕ → Option ℕ) → Board
with_value x value = record { promised = x.promised; accepted = x.accepted; value = value; offers = x.offers; decision = x.decision }

abbrev pub with_offers : Board → List ℕ → Board
with_offers x offers = record { promised = x.promised; accepted = x.accepted; value = x.value; offers = offers; decision = x.decision }

abbrev pub with_decision : Board → Option ℕ → Board
with_decision x decision = record { promised = x.promised; accepted = x.accepted; value = x.value; offers = x.offers; decision = decision }

-- What a promise or an accept may make of an acceptor: its promise does not fall; it accepted last what it had, or the fixed ballot that it now promises, not below its old promise; what it promises has an offer.
pub record Moved (x : Board) (promised accepted : ℕ → ℕ) (a : ℕ) : Type 0 where
  pub promise_grows : x.promised a ≤ promised a
  pub accepts : (accepted a ≡ x.accepted a) ⊎ ((accepted a ≡ promised a) × (is_some (x.value (accepted a)) ≡ true) × (x.promised a ≤ accepted a))
  pub has_offer : promised a ≢ 0 → owner (promised a) < length x.offers

-- What is there has a value.
some_has_value : (option : Option ℕ) → is_some option ≡ true → (v : ℕ) × (option ≡ Some v)
some_has_value None there = cc
some_has_value (Some v) there = (v, refl)

module _ (fixing counting : ℕ → Bool) (x : Board) (sound : Sound fixing counting x) where
  -- Ballot 0 has no value, so a ballot that has one is another.
  fixed_is_not_zero : (b v : ℕ) → x.value b ≡ Some v → b ≢ 0
  fixed_is_not_zero b v fixed zero = let none : x.value 0 ≡ None = sound.zero_is_no_ballot in cc

  -- Only fixed ballots are accepted, so one that somebody accepted has a value.
  accepted_has_value : (a b : ℕ) → b ≢ 0 → x.accepted a ≡ b → (v : ℕ) × (x.value b ≡ Some v)
  accepted_has_value a b not_zero accepts =
      some_has_value (x.value b) (rw accepts at (sound.accepted_is_fixed a (λ zero. not_zero (sym accepts ∙ zero))))

  -- A higher ballot of another value would have passed this one over, and this one would be dead.
  higher_agrees_unless_dead : (b : ℕ) → (Dead counting x b → ⊥) → (higher v w : ℕ) → b ≤ higher → x.value b ≡ Some v → x.value higher ≡ Some w → w ≡ v
  higher_agrees_unless_dead b alive higher v w after fixed fixed_higher =
      grind (arith, cases_eq w v, cases_lt b higher, sound.passed_over_is_dead b higher v w)

  -- Where promises only grow, the set that promised the ballot or a higher one still does.
  backed_stays_backed : (y : Board) → ((a : ℕ) → x.promised a ≤ y.promised a) → (b : ℕ) → Backed fixing x b → Backed fixing y b
  backed_stays_backed y grows b backed = record {
    set = backed.set;
    wins = backed.wins;
    promised = λ a below inside. omega (arith, backed.promised a below inside, grows a);
  }

  -- Where values stay and accepted ballots only grow, the same ballot and the same set still show the choice.
  chosen_stays_chosen : (y : Board) → ((b : ℕ) → y.value b ≡ x.value b) → ((a : ℕ) → x.accepted a ≤ y.accepted a)
      → (d : ℕ) → Chosen counting x d → Chosen counting y d
  chosen_stays_chosen y same grows d chosen = record {
    ballot = chosen.ballot;
    fixed = same chosen.ballot ∙ chosen.fixed;
    higher = λ b v after fixed. chosen.higher b v after (sym (same b) ∙ fixed);
    set = chosen.set;
    wins = chosen.wins;
    accepted = λ a below inside. omega (arith, chosen.accepted a below inside, grows a);
  }

  -- Each acceptor promises, accepts or stays as it was.
  module _ (promised accepted : ℕ → ℕ) (moved : (a : ℕ) → Moved x promised accepted a) where
    -- A ballot accepted anew is not below the promise, and the promise was not below what was accepted.
    accepted_grows : (a : ℕ) → x.accepted a ≤ accepted a
    accepted_grows a = grind (arith, (moved a).accepts, sound.accepted_is_promised a)

    -- Who had promised a higher ballot still has, and from then on accepts none below that one.
    dead_stays_dead : (b : ℕ) → Dead counting x b → Dead counting (with_acceptors x promised accepted) b
    dead_stays_dead b dead set wins all = dead set wins (λ a below inside passed. grind (arith, moved a, all a below inside))

    -- Promises and accepted ballots only grow, and what is accepted anew is promised and fixed.
    pub moves_keep_sound : Sound fixing counting (with_acceptors x promised accepted)
    moves_keep_sound = record {
      accepted_is_promised = λ a. grind (arith, moved a, sound.accepted_is_promised a);
      accepted_is_fixed = λ a accepts. grind (arith, (moved a).accepts, sound.accepted_is_fixed a);
      zero_is_no_ballot = sound.zero_is_no_ballot;
      promised_has_offer = λ a. (moved a).has_offer;
      fixed_has_offer = sound.fixed_has_offer;
      value_is_offered = sound.value_is_offered;
      fixed_is_backed = λ b v fixed. backed_stays_backed _ (λ a. (moved a).promise_grows) b (sound.fixed_is_backed b v fixed);
      passed_over_is_dead = λ b higher v w before fixed fixed_higher differs.
          dead_stays_dead b (sound.passed_over_is_dead b higher v w before fixed fixed_higher differs);
      decided_is_chosen = λ d decided. chosen_stays_chosen _ (λ b. refl) accepted_grows d (sound.decided_is_chosen d decided);
    }

  -- Ballot b is fixed at v, after a fixing set promised it: v is the value of the highest ballot that one of the set accepted last, if any.
  module _ (meet : Meet fixing counting) (b v set highest : ℕ) (f : ℕ → Option ℕ)
      (not_zero : b ≢ 0) (unfixed : x.value b ≡ None) (wins : fixing set ≡ true)
      (promised : Each set (λ a. x.promised a ≡ b)) (accepted : Each set (λ a. x.accepted a ≤ highest))
      (takes_over : highest ≢ 0 → x.value highest ≡ Some v) (offered : one_of x.offers v ≡ true) (has_offer : owner b < length x.offers)
      (fixed : f b ≡ Some v) (others : (c : ℕ) → c ≢ b → f c ≡ x.value c) where
    -- Only ballot b gets a value, so another that has one had it before.
    other_was_fixed : (c u : ℕ) → c ≢ b → f c ≡ Some u → x.value c ≡ Some u
    other_was_fixed c u other now = sym (others c other) ∙ now

    -- Ballot b had no value, so a ballot that had one is another.
    fixed_is_other : (c u : ℕ) → x.value c ≡ Some u → c ≢ b
    fixed_is_other c u before same = let none : x.value b ≡ None = unfixed in cc

    -- If a set could still count c, the acceptor that it shares with the fixing set accepted c: so the highest ballot is c, or passed c over.
    lower_is_dead : (c u : ℕ) → c < b → x.value c ≡ Some u → u ≢ v → Dead counting x c
    lower_is_dead c u before had differs counted counts all =
        let (a, below, fixes, counted_by) = meet set counted wins counts in
        let reaches : c ≤ highest = omega (arith, all a below counted_by (omega (arith, promised a below fixes)), accepted a below fixes) in
        let value : x.value highest ≡ Some v = takes_over (λ zero. fixed_is_not_zero c u had (omega arith)) in
        differs (sym (higher_agrees_unless_dead c (λ dead. dead counted counts all) highest u v reaches had value))

    -- The set behind a higher ballot shares an acceptor with each counting set, and nobody can have accepted b, which had no value.
    passed_by_higher_is_dead : (c u : ℕ) → b < c → x.value c ≡ Some u → Dead counting x b
    passed_by_higher_is_dead c u after had counted counts all =
        let backed = sound.fixed_is_backed c u had in
        let (a, below, backs, counted_by) = meet backed.set counted backed.wins counts in
        let (w, value) = accepted_has_value a b not_zero (all a below counted_by (omega (arith, backed.promised a below backs))) in
        fixed_is_other b w value refl

    -- The fixing set shares an acceptor with the set that chose d, so the highest ballot is the chosen one or a higher one.
    chosen_is_taken_over : (d : ℕ) → Chosen counting x d → v ≡ d
    chosen_is_taken_over d chosen =
        let (a, below, fixes, chosen_by) = meet set chosen.set wins chosen.wins in
        let reaches : chosen.ballot ≤ highest = omega (arith, chosen.accepted a below chosen_by, accepted a below fixes) in
        chosen.higher highest v reaches (takes_over (λ zero. fixed_is_not_zero chosen.ballot d chosen.fixed (omega arith)))

    -- Ballot b is backed by the set that fixes it, the others are as before.
    fixed_is_still_backed : (c u : ℕ) → f c ≡ Some u → Backed fixing (with_value x f) c
    fixed_is_still_backed c u now = ⊎_elim
        (λ same. record { set = set; wins = wins; promised = λ a below fixes. grind (arith, promised a below fixes) })
        (λ other. backed_stays_backed _ (λ a. omega arith) c (sound.fixed_is_backed c u (other_was_fixed c u other now)))
        (cases_eq c b)

    -- A higher ballot passes b over, or b a lower one, as the lemmas above show, or both ballots are as before.
    passed_over_is_still_dead : (c higher u w : ℕ) → c < higher → f c ≡ Some u → f higher ≡ Some w → u ≢ w → Dead counting x c
    passed_over_is_still_dead c higher u w before now now_higher differs =
        grind (
          arith,
          cases_eq c b,
          cases_eq higher b,
          other_was_fixed c u,
          other_was_fixed higher w,
          passed_by_higher_is_dead higher w,
          lower_is_dead c u,
          sound.passed_over_is_dead c higher u w,
        )

    -- The chosen ballot is another than b, and b took its value over.
    chosen_is_still_chosen : (d : ℕ) → Chosen counting x d → Chosen counting (with_value x f) d
    chosen_is_still_chosen d chosen = record {
      ballot = chosen.ballot;
      fixed = others chosen.ballot (fixed_is_other chosen.ballot d chosen.fixed) ∙ chosen.fixed;
      higher = λ c u after now. grind (arith, cases_eq c b, chosen.higher c u, other_was_fixed c u, chosen_is_taken_over d chosen);
      set = chosen.set;
      wins = chosen.wins;
      accepted = chosen.accepted;
    }

    -- Only ballot b gets a value: an offered one, and that of each lower ballot which can still be counted.
    pub fixing_keeps_sound : Sound fixing counting (with_value x f)
    fixing_keeps_sound = record {
      accepted_is_promised = sound.accepted_is_promised;
      accepted_is_fixed = λ a accepts. grind (arith, sound.accepted_is_fixed a accepts, others (x.accepted a));
      zero_is_no_ballot = others 0 (λ zero. not_zero (sym zero)) ∙ sound.zero_is_no_ballot;
      promised_has_offer = sound.promised_has_offer;
      fixed_has_offer = λ c u now. grind (arith, cases_eq c b, sound.fixed_has_offer c u, other_was_fixed c u);
      value_is_offered = λ c u now. grind (arith, cases_eq c b, sound.value_is_offered c u, other_was_fixed c u);
      fixed_is_backed = fixed_is_still_backed;
      passed_over_is_dead = passed_over_is_still_dead;
      decided_is_chosen = λ d decided. chosen_is_still_chosen d (sound.decided_is_chosen d decided);
    }

  -- Ballot c is counted: a counting set has accepted it.
  module _ (meet : Meet fixing counting) (all_fix : fixing (everyone acceptors) ≡ true) (c set : ℕ) (not_zero : c ≢ 0)
      (wins : counting set ≡ true) (accepted : Each set (λ a. x.accepted a ≡ c)) where
    -- The counting set shares an acceptor with everyone, so it has one, and that one accepted the ballot.
    pub counted_is_fixed : (v : ℕ) × (x.value c ≡ Some v)
    counted_is_fixed =
        let (a, below, present, counts) = meet (everyone acceptors) set all_fix wins in
        accepted_has_value a c not_zero (accepted a below counts)

    -- The ballot was counted, so it is not dead.
    higher_agrees_with_counted : (v b u : ℕ) → x.value c ≡ Some v → c ≤ b → x.value b ≡ Some u → u ≡ v
    higher_agrees_with_counted v b u fixed after =
        higher_agrees_unless_dead c (λ dead. dead set wins (λ a below counts passed. accepted a below counts)) b v u after fixed

    -- Of the chosen ballot and the counted one the higher has the value of the lower.
    pub counting_keeps_decision : (v : ℕ) → x.decision ≡ Some v → x.value c ≡ Some v
    counting_keeps_decision v decided =
        let chosen = sound.decided_is_chosen v decided in
        let (u, fixed) = counted_is_fixed in
        grind (arith, cases_lt c chosen.ballot, higher_agrees_with_counted u chosen.ballot v, chosen.higher c u, chosen.fixed)

    -- The counting set accepted the ballot, and higher ballots agree with it.
    counted_is_chosen : (v : ℕ) → x.value c ≡ Some v → Chosen counting (with_decision x (x.value c)) v
    counted_is_chosen v fixed = record {
      ballot = c;
      fixed = fixed;
      higher = λ b u. higher_agrees_with_counted v b u fixed;
      set = set;
      wins = wins;
      accepted = λ a below counts. omega (arith, accepted a below counts);
    }

    -- Only the decision changes, and the new one is chosen.
    pub counting_keeps_sound : Sound fixing counting (with_decision x (x.value c))
    counting_keeps_sound = record {
      accepted_is_promised = sound.accepted_is_promised;
      accepted_is_fixed = sound.accepted_is_fixed;
      zero_is_no_ballot = sound.zero_is_no_ballot;
      promised_has_offer = sound.promised_has_offer;
      fixed_has_offer = sound.fixed_has_offer;
      value_is_offered = sound.value_is_offered;
      fixed_is_backed = λ b v fixed. backed_stays_backed _ (λ a. omega arith) b (sound.fixed_is_backed b v fixed);
      passed_over_is_dead = sound.passed_over_is_dead;
      decided_is_chosen = counted_is_chosen;
    }

  -- What was offered stays offered, and places stay below the number of offers.
  pub offering_keeps_sound : (value : ℕ) → Sound fixing counting (with_offers x (x.offers ++ (value ∷ [])))
  offering_keeps_sound value = record {
    accepted_is_promised = sound.accepted_is_promised;
    accepted_is_fixed = sound.accepted_is_fixed;
    zero_is_no_ballot = sound.zero_is_no_ballot;
    promised_has_offer = λ a promises. omega (arith, sound.promised_has_offer a promises, length_push x.offers value);
    fixed_has_offer = λ b v fixed. omega (arith, sound.fixed_has_offer b v fixed, length_push x.offers value);
    value_is_offered = λ b v fixed. simp (list_any-append, sound.value_is_offered b v fixed);
    fixed_is_backed = λ b v fixed. backed_stays_backed _ (λ a. omega arith) b (sound.fixed_is_backed b v fixed);
    passed_over_is_dead = sound.passed_over_is_dead;
    decided_is_chosen = λ d decided. chosen_stays_chosen _ (λ b. refl) (λ a. omega arith) d (sound.decided_is_chosen d decided);
  }

  -- A decision is the value of a fixed ballot, and such values are offered.
  pub decided_is_offered : (v : ℕ) → x.decision ≡ Some v → one_of x.offers v ≡ true
  decided_is_offered v decided =
      let chosen = sound.decided_is_chosen v decided in
      sound.value_is_offered chosen.ballot v chosen.fixed
