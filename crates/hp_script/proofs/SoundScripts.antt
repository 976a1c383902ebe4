-- What the statements so far make is in range, and stays so with one statement more.
use Rattle.std.proofs.Common.{◌≡◌, ℕ, ◌+◌, ◌<◌, ◌≤◌, Bool, true, false, cond, ◌&&◌, ◌||◌, List, [], ◌∷◌, ◌++◌, length, refl, ap, subst, ◌∙◌, length-append, arith}
use Rattle.std.specs.Prelude.{All, sum_by, nat_le}
use Rattle.std.proofs.lemmas.Bool.{leb-true, leb-false}
use Rattle.std.proofs.lemmas.Bool.Decides.{nat_tests}
use Rattle.std.proofs.lemmas.List.Elements.{All-nil, All-cons, All-head, All-tail, All-append}
use Rattle.std.proofs.lemmas.List.Sums.{fold-append, sum_by-append}
use Rattle.hp_states.proofs.Basics.{and_parts}
use Rattle.hp_states.specs.declared.limits.TheConstants.{MAX_CPUS, MAX_SUBS, MAX_RULES, MAX_OPERATIONS}
use Rattle.hp_states.specs.declared.plan.Rule.{Rule}
use Rattle.hp_event.specs.declared.op.Op.{Op}
use Rattle.hp_event.specs.declared.op.Op.TheVariants as op
use Rattle.hp_event.specs.declared.head.Sub.{Sub}
use Rattle.hp_model.specs.Heads.{IsRule, IsSub}
use Rattle.hp_model.specs.Scripts.{lock_step, is_locked}
use Rattle.hp_script.specs.declared.before.Before.{Before}
use Rattle.hp_script.specs.declared.statement.Statement.{Statement}
use Rattle.hp_script.specs.declared.statement.Statement.TheVariants as says
use Rattle.hp_text.specs.Sets.{rise_from}
use Rattle.hp_script.specs.Ranges.{is_within, is_schedule, is_op}
use Rattle.hp_event.specs.Ops.{is_setup}
use Rattle.hp_script.specs.Before.{after}
use Rattle.hp_script.specs.Refusals.{is_first, names_no_sub}
use Rattle.hp_script.specs.Script.{Contents}
use Rattle.hp_script.specs.Drafts.{contents_and, with_last, one_rule_more, one_op_more, last_rules, Fits}
use Rattle.hp_script.specs.Playable.{setups_in}
use Rattle.hp_script.proofs.Lasts.{as_many}
use Rattle.hp_script.proofs.TakenLines.{Taken}

-- ---- the head

pub record SoundHead (s : Contents) (b : Before) : Type 0 where
  pub possible : s.head.possible ≡ b.possible
  pub some : is_first b.group ≡ false → 0 < b.possible
  pub few : b.possible ≤ MAX_CPUS
  pub absent : rise_from 1 b.possible s.head.absent ≡ true
  pub none_yet : is_first b.group ≡ true → s.head.absent ≡ []
  pub subs : length s.head.subs ≡ b.subs
  pub few_subs : b.subs ≤ MAX_SUBS
  pub subs_are : All IsSub s.head.subs
  pub schedule : is_schedule s.schedule ≡ true

pub at_least : (low high n : ℕ) → is_within low high n ≡ true → low ≤ n
at_least low high n e = leb-true low n (and_parts _ _ e).0

rule_more : (rule : Rule) → IsRule rule → (subs : List Sub) → All IsSub subs → last_rules subs < MAX_RULES → All IsSub (with_last (one_rule_more rule) subs)
rule_more rule fits [] are few = are
rule_more rule fits (a ∷ []) are few =
    let is = All-head IsSub a [] are in
    All-cons IsSub (one_rule_more rule a) [] (record {
      name_is = is.name_is;
      few_rules = omega (arith, few, length-append a.plan (rule ∷ []));
      rules_are = All-append IsRule a.plan (rule ∷ []) is.rules_are (All-cons IsRule rule [] fits (All-nil IsRule));
    }) (All-nil IsSub)
rule_more rule fits (a ∷ b ∷ bs) are few =
    All-cons IsSub a (with_last (one_rule_more rule) (b ∷ bs)) (All-head IsSub a (b ∷ bs) are) (rule_more rule fits (b ∷ bs) (All-tail IsSub a (b ∷ bs) are) few)

pub head_more : (hooks : ℕ) (s : Contents) (b : Before) (t : Statement) → Taken hooks b t → Fits s b → SoundHead s b → SoundHead (contents_and s t) (after b t)
head_more hooks s b (says.Cpus n) t f p = record {
  possible = refl;
  some = λ _. at_least 1 MAX_CPUS n t.range;
  few = leb-true n MAX_CPUS (and_parts _ _ t.range).1;
  absent = ap (rise_from 1 n) (p.none_yet t.first);
  none_yet = λ e. p.none_yet t.first;
  subs = p.subs;
  few_subs = p.few_subs;
  subs_are = p.subs_are;
  schedule = p.schedule;
}
head_more hooks s b (says.Absent ns) t f p = record {
  possible = p.possible;
  some = λ _. p.some t.first;
  few = p.few;
  absent = t.range;
  none_yet = λ e. absurd cc;
  subs = p.subs;
  few_subs = p.few_subs;
  subs_are = p.subs_are;
  schedule = p.schedule;
}
head_more hooks s b (says.Sub sub) t f p = record {
  possible = p.possible;
  some = λ _. p.some t.first;
  few = p.few;
  absent = p.absent;
  none_yet = λ e. absurd cc;
  subs = omega (arith, p.subs, length-append s.head.subs (record sub { plan = [] } ∷ []));
  few_subs = omega (arith, leb-false MAX_SUBS b.subs t.room);
  subs_are = All-append IsSub s.head.subs (record sub { plan = [] } ∷ []) p.subs_are (All-cons IsSub (record sub { plan = [] }) [] (record {
    name_is = t.formed;
    few_rules = omega arith;
    rules_are = All-nil IsRule;
  }) (All-nil IsSub));
  schedule = p.schedule;
}
head_more hooks s b (says.Rule rule) t f p = record {
  possible = p.possible;
  some = p.some;
  few = p.few;
  absent = p.absent;
  none_yet = p.none_yet;
  subs = as_many (one_rule_more rule) s.head.subs ∙ p.subs;
  few_subs = p.few_subs;
  subs_are = rule_more rule t.formed s.head.subs p.subs_are (omega (arith, f.rules, leb-false MAX_RULES b.rules t.room));
  schedule = p.schedule;
}
head_more hooks s b (says.Schedule schedule) t f p = record {
  possible = p.possible;
  some = λ _. p.some t.first;
  few = p.few;
  absent = p.absent;
  none_yet = λ e. absurd cc;
  subs = p.subs;
  few_subs = p.few_subs;
  subs_are = p.subs_are;
  schedule = t.range;
}
head_more hooks s b says.Actor t f p = record {
  possible = p.possible;
  some = λ _. p.some t.first;
  few = p.few;
  absent = p.absent;
  none_yet = λ e. absurd cc;
  subs = p.subs;
  few_subs = p.few_subs;
  subs_are = p.subs_are;
  schedule = p.schedule;
}
head_more hooks s b (says.Operation op) t f p = record {
  possible = p.possible;
  some = p.some;
  few = p.few;
  absent = p.absent;
  none_yet = p.none_yet;
  subs = p.subs;
  few_subs = p.few_subs;
  subs_are = p.subs_are;
  schedule = p.schedule;
}

-- ---- the actors

-- its numbers are in range, and a setup's subsystem is one of so many
abbrev pub IsSoundOp : (subs : ℕ) → Op → Type 0
IsSoundOp subs op = (is_op op ≡ true) × (names_no_sub subs (says.Operation op) ≡ false)

-- each actor but the last ends unlocked, and the last is locked or not
abbrev pub AreLocked : (actors : List (List Op)) (last : Bool) → Type 0
AreLocked [] last = Unit {0}
AreLocked (ops ∷ []) last = is_locked ops ≡ last
AreLocked (ops ∷ o ∷ os) last = (is_locked ops ≡ false) × AreLocked (o ∷ os) last

-- how many operations the last actor has
abbrev pub last_ops : List (List Op) → ℕ
last_ops [] = 0
last_ops (ops ∷ []) = length ops
last_ops (ops ∷ o ∷ os) = last_ops (o ∷ os)

pub record SoundActors (hooks : ℕ) (s : Contents) (b : Before) : Type 0 where
  pub ops_are : All (All (IsSoundOp b.subs)) s.actors
  pub few_ops : All (λ ops. length ops ≤ MAX_OPERATIONS) s.actors
  pub last : last_ops s.actors ≤ b.ops
  pub setups : sum_by setups_in s.actors ≤ b.setups
  pub few_setups : b.setups ≤ hooks
  pub locks : AreLocked s.actors b.locked

abbrev IsShort : List Op → Type 0
IsShort ops = length ops ≤ MAX_OPERATIONS

one_sub_more : (subs : ℕ) (op : Op) → IsSoundOp subs op → IsSoundOp (subs + 1) op
one_sub_more subs (op.Setup state sub form) h = (h.0, grind (arith, nat_tests, h.1))
one_sub_more subs other h = (h.0, refl)

ops_more : (P : Op → Type 0) (op : Op) → P op → (actors : List (List Op)) → All (All P) actors → All (All P) (with_last (one_op_more op) actors)
ops_more P op is [] are = are
ops_more P op is (a ∷ []) are =
    All-cons (All P) (one_op_more op a) [] (All-append P a (op ∷ []) (All-head (All P) a [] are) (All-cons P op [] is (All-nil P))) (All-nil (All P))
ops_more P op is (a ∷ b ∷ bs) are =
    All-cons (All P) a (with_last (one_op_more op) (b ∷ bs)) (All-head (All P) a (b ∷ bs) are) (ops_more P op is (b ∷ bs) (All-tail (All P) a (b ∷ bs) are))

short_more : (op : Op) (actors : List (List Op)) → last_ops actors < MAX_OPERATIONS → All IsShort actors → All IsShort (with_last (one_op_more op) actors)
short_more op [] few are = are
short_more op (a ∷ []) few are = All-cons IsShort (one_op_more op a) [] (omega (arith, few, length-append a (op ∷ []))) (All-nil IsShort)
short_more op (a ∷ b ∷ bs) few are =
    All-cons IsShort a (with_last (one_op_more op) (b ∷ bs)) (All-head IsShort a (b ∷ bs) are) (short_more op (b ∷ bs) few (All-tail IsShort a (b ∷ bs) are))

last_more : (op : Op) (actors : List (List Op)) → last_ops (with_last (one_op_more op) actors) ≤ last_ops actors + 1
last_more op [] = omega arith
last_more op (a ∷ []) = omega (arith, length-append a (op ∷ []))
last_more op (a ∷ b ∷ []) = omega (arith, length-append b (op ∷ []))
last_more op (a ∷ b ∷ c ∷ cs) = last_more op (b ∷ c ∷ cs)

last_new : (actors : List (List Op)) → last_ops (actors ++ [] ∷ []) ≡ 0
last_new [] = refl
last_new (a ∷ []) = refl
last_new (a ∷ b ∷ bs) = last_new (b ∷ bs)

setups_more : (op : Op) (actors : List (List Op)) → sum_by setups_in (with_last (one_op_more op) actors) ≤ sum_by setups_in actors + cond (is_setup op) 1 0
setups_more op [] = omega arith
setups_more op (a ∷ []) = omega (arith, sum_by-append (λ (o : Op). cond (is_setup o) 1 0) a (op ∷ []))
setups_more op (a ∷ b ∷ bs) =
    omega (arith, setups_more op (b ∷ bs), sum_by-append setups_in (a ∷ []) (b ∷ bs), sum_by-append setups_in (a ∷ []) (with_last (one_op_more op) (b ∷ bs)))

pub first_unlocked : (a b : List Op) (bs : List (List Op)) (last : Bool) → AreLocked (a ∷ b ∷ bs) last → is_locked a ≡ false
first_unlocked a b bs last are = are.0

pub others_locked : (a b : List Op) (bs : List (List Op)) (last : Bool) → AreLocked (a ∷ b ∷ bs) last → AreLocked (b ∷ bs) last
others_locked a b bs last are = are.1

more_locked : (a b : List Op) (bs : List (List Op)) (last : Bool) → is_locked a ≡ false → AreLocked (b ∷ bs) last → AreLocked (a ∷ b ∷ bs) last
more_locked a b bs last first are = (first, are)

locks_more : (op : Op) (locked : Bool) (actors : List (List Op)) → AreLocked actors locked → AreLocked (with_last (one_op_more op) actors) (lock_step locked op)
locks_more op locked [] are = tt
locks_more op locked (a ∷ []) are = fold-append lock_step false a (op ∷ []) ∙ ap (λ (l : Bool). lock_step l op) are
locks_more op locked (a ∷ b ∷ []) are =
    more_locked a (one_op_more op b) [] (lock_step locked op) (first_unlocked a b [] locked are) (locks_more op locked (b ∷ []) (others_locked a b [] locked are))
locks_more op locked (a ∷ b ∷ c ∷ cs) are =
    more_locked a b (with_last (one_op_more op) (c ∷ cs)) (lock_step locked op) (first_unlocked a b (c ∷ cs) locked are) (locks_more op locked (b ∷ c ∷ cs) (others_locked a b (c ∷ cs) locked are))

locks_new : (actors : List (List Op)) → AreLocked actors false → AreLocked (actors ++ [] ∷ []) false
locks_new [] are = refl
locks_new (a ∷ []) are = (are, refl)
locks_new (a ∷ b ∷ bs) are = more_locked a b (bs ++ [] ∷ []) false (first_unlocked a b bs false are) (locks_new (b ∷ bs) (others_locked a b bs false are))

-- room for an operation is room for it in its actor, and for the hook that it takes
room_of : (a c d : Bool) → (a || (c && d)) ≡ false → (a ≡ false) × ((c && d) ≡ false)
room_of true c d e = absurd cc
room_of false c d e = (refl, e)

hooks_more : (hooks setups : ℕ) (c : Bool) → setups ≤ hooks → (c && nat_le hooks setups) ≡ false → cond c (setups + 1) setups ≤ hooks
hooks_more hooks setups true few room = omega (arith, leb-false hooks setups room)
hooks_more hooks setups false few room = few

setups_said : (c : Bool) (setups : ℕ) → setups + cond c 1 0 ≡ cond c (setups + 1) setups
setups_said true setups = refl
setups_said false setups = omega arith

pub actors_more : (hooks : ℕ) (s : Contents) (b : Before) (t : Statement) → Taken hooks b t → SoundActors hooks s b → SoundActors hooks (contents_and s t) (after b t)
actors_more hooks s b (says.Sub sub) t p = record {
  ops_are = λ k d h i e l. one_sub_more b.subs _ (p.ops_are k d h i e l);
  few_ops = p.few_ops;
  last = p.last;
  setups = p.setups;
  few_setups = p.few_setups;
  locks = p.locks;
}
actors_more hooks s b says.Actor t p = record {
  ops_are = All-append (All (IsSoundOp b.subs)) s.actors ([] ∷ []) p.ops_are (All-cons (All (IsSoundOp b.subs)) [] [] (All-nil (IsSoundOp b.subs)) (All-nil (All (IsSoundOp b.subs))));
  few_ops = All-append IsShort s.actors ([] ∷ []) p.few_ops (All-cons IsShort [] [] (omega arith) (All-nil IsShort));
  last = omega (arith, last_new s.actors);
  setups = omega (arith, p.setups, sum_by-append setups_in s.actors ([] ∷ []));
  few_setups = p.few_setups;
  locks = locks_new s.actors (subst (AreLocked s.actors) t.unlocked p.locks);
}
actors_more hooks s b (says.Operation op) t p =
    let room = room_of (nat_le MAX_OPERATIONS b.ops) (is_setup op) (nat_le hooks b.setups) t.room in
    record {
      ops_are = ops_more (IsSoundOp b.subs) op (t.range, t.sub) s.actors p.ops_are;
      few_ops = short_more op s.actors (omega (arith, p.last, leb-false MAX_OPERATIONS b.ops room.0)) p.few_ops;
      last = omega (arith, p.last, last_more op s.actors);
      setups = omega (arith, p.setups, setups_more op s.actors, setups_said (is_setup op) b.setups);
      few_setups = hooks_more hooks b.setups (is_setup op) p.few_setups room.1;
      locks = locks_more op b.locked s.actors p.locks;
    }
actors_more hooks s b other t p = record {
  ops_are = p.ops_are;
  few_ops = p.few_ops;
  last = p.last;
  setups = p.setups;
  few_setups = p.few_setups;
  locks = p.locks;
}
