-- What one statement more makes of what statements say.
use Rattle.std.proofs.Common.{◌≡◌, List, [], ◌∷◌, ◌++◌, map, Option, Some, None, refl, sym, ap, ◌∙◌, append_assoc}
use Rattle.std.proofs.lemmas.List.{append-nil, map-append}
use Rattle.hp_script.specs.declared.schedule.Schedule.TheVariants.{Rounds}
use Rattle.hp_script.specs.declared.statement.Statement.{Statement}
use Rattle.hp_script.specs.declared.statement.Statement.TheVariants as says
use Rattle.hp_script.specs.Script.{value_in, up_to, added_to, onto_groups, groups_in, opened_sub, rules_of, with_rules, subs_in, opened_actor, ops_of, actors_in, script_in, cpus_or, absent_or, schedule_or}
use Rattle.hp_script.specs.Drafts.{with_last, one_rule_more, one_op_more, subs_and, actors_and, contents_and}
use Rattle.hp_script.proofs.Lasts.{mapped_last, unchanged_last}

pub value_in_more : {A : Type 0} (or : A → Statement → A) (a : A) (ss : List Statement) (s : Statement) → value_in or a (ss ++ s ∷ []) ≡ or (value_in or a ss) s
value_in_more or a [] s = refl
value_in_more or a (t ∷ ss) s = value_in_more or (or a t) ss s

-- what opens a group adds nothing to the one before
added_at_opening : {A B : Type 0} (opens : Statement → Option A) (adds : Statement → List B) (ss : List Statement) (s : Statement) (a : A) → opens s ≡ Some a
    → added_to opens adds (ss ++ s ∷ []) ≡ added_to opens adds ss
added_at_opening opens adds [] s a opened = ap (λ o. up_to o (adds s ++ [])) opened
added_at_opening opens adds (t ∷ ss) s a opened = ap (λ r. up_to (opens t) (adds t ++ r)) (added_at_opening opens adds ss s a opened)

pub opening : {A B : Type 0} (opens : Statement → Option A) (adds : Statement → List B) (ss : List Statement) (s : Statement) (a : A) → opens s ≡ Some a
    → groups_in opens adds (ss ++ s ∷ []) ≡ groups_in opens adds ss ++ (a, []) ∷ []
opening opens adds [] s a opened = ap (λ o. onto_groups o [] []) opened
opening opens adds (t ∷ ss) s a opened =
    ap (λ r. onto_groups (opens t) r (groups_in opens adds (ss ++ s ∷ []))) (added_at_opening opens adds ss s a opened)
    ∙ ap (onto_groups (opens t) (added_to opens adds ss)) (opening opens adds ss s a opened)
    ∙ in_front (opens t) (added_to opens adds ss) (groups_in opens adds ss) ((a, []) ∷ [])
  where
    in_front : {A B : Type 0} (o : Option A) (r : List B) (gs more : List (A × List B)) → onto_groups o r (gs ++ more) ≡ onto_groups o r gs ++ more
    in_front None r gs more = refl
    in_front (Some a) r gs more = refl

-- a group with something more added
abbrev and_more : {A B : Type 0} (more : List B) → A × List B → A × List B
and_more more group = (group.0, group.1 ++ more)

-- what is added before the first group of what follows, where there is none and where there is one
added_last : {A B : Type 0} (opens : Statement → Option A) (adds : Statement → List B) (ss : List Statement) (s : Statement) → opens s ≡ None
    → groups_in opens adds ss ≡ [] → added_to opens adds (ss ++ s ∷ []) ≡ added_to opens adds ss ++ adds s
added_last opens adds [] s plain none = ap (λ o. up_to o (adds s ++ [])) plain ∙ append-nil (adds s)
added_last {A = A} {B = B} opens adds (t ∷ ss) s plain none = by_first (opens t) none (λ h. added_last opens adds ss s plain h)
  where
    by_first : (o : Option A) → onto_groups o (added_to opens adds ss) (groups_in opens adds ss) ≡ []
        → (groups_in opens adds ss ≡ [] → added_to opens adds (ss ++ s ∷ []) ≡ added_to opens adds ss ++ adds s)
        → up_to o (adds t ++ added_to opens adds (ss ++ s ∷ [])) ≡ up_to o (adds t ++ added_to opens adds ss) ++ adds s
    by_first None none more = ap (λ r. adds t ++ r) (more none) ∙ sym (append_assoc (adds t) (added_to opens adds ss) (adds s))
    by_first (Some a) none more = absurd cc

added_kept : {A B : Type 0} (opens : Statement → Option A) (adds : Statement → List B) (ss : List Statement) (s : Statement) (g : A × List B) (gs : List (A × List B)) → opens s ≡ None
    → groups_in opens adds ss ≡ g ∷ gs → added_to opens adds (ss ++ s ∷ []) ≡ added_to opens adds ss
added_kept opens adds [] s g gs plain some = absurd cc
added_kept {A = A} {B = B} opens adds (t ∷ ss) s g gs plain some = by_first (opens t) some (λ h. added_kept opens adds ss s g gs plain h)
  where
    by_first : (o : Option A) → onto_groups o (added_to opens adds ss) (groups_in opens adds ss) ≡ g ∷ gs
        → (groups_in opens adds ss ≡ g ∷ gs → added_to opens adds (ss ++ s ∷ []) ≡ added_to opens adds ss)
        → up_to o (adds t ++ added_to opens adds (ss ++ s ∷ [])) ≡ up_to o (adds t ++ added_to opens adds ss)
    by_first None some more = ap (λ r. adds t ++ r) (more some)
    by_first (Some a) some more = refl

pub adding : {A B : Type 0} (opens : Statement → Option A) (adds : Statement → List B) (ss : List Statement) (s : Statement) → opens s ≡ None
    → groups_in opens adds (ss ++ s ∷ []) ≡ with_last (and_more (adds s)) (groups_in opens adds ss)
adding opens adds [] s plain = ap (λ o. onto_groups o [] []) plain
adding {A = A} {B = B} opens adds (t ∷ ss) s plain =
    by_first (opens t) (groups_in opens adds ss) (adding opens adds ss s plain) (λ h. added_last opens adds ss s plain h) (λ g gs h. added_kept opens adds ss s g gs plain h) refl
  where
    by_first : (o : Option A) (groups : List (A × List B)) → groups_in opens adds (ss ++ s ∷ []) ≡ with_last (and_more (adds s)) groups
        → (groups ≡ [] → added_to opens adds (ss ++ s ∷ []) ≡ added_to opens adds ss ++ adds s)
        → ((g : A × List B) (gs : List (A × List B)) → groups ≡ g ∷ gs → added_to opens adds (ss ++ s ∷ []) ≡ added_to opens adds ss)
        → groups_in opens adds ss ≡ groups
        → onto_groups o (added_to opens adds (ss ++ s ∷ [])) (groups_in opens adds (ss ++ s ∷ [])) ≡ with_last (and_more (adds s)) (onto_groups o (added_to opens adds ss) (groups_in opens adds ss))
    by_first None groups ih last kept is = ih ∙ ap (with_last (and_more (adds s))) (sym is)
    by_first (Some a) [] ih last kept is =
        ap (λ (r : List B). (a, r) ∷ groups_in opens adds (ss ++ s ∷ [])) (last refl)
        ∙ ap (λ (gs : List (A × List B)). (a, added_to opens adds ss ++ adds s) ∷ gs) ih
        ∙ sym (ap (λ (gs : List (A × List B)). with_last (and_more (adds s)) ((a, added_to opens adds ss) ∷ gs)) is)
    by_first (Some a) (g ∷ gs) ih last kept is =
        ap (λ (r : List B). (a, r) ∷ groups_in opens adds (ss ++ s ∷ [])) (kept g gs refl)
        ∙ ap (λ (gs : List (A × List B)). (a, added_to opens adds ss) ∷ gs) ih
        ∙ sym (ap (λ (gs : List (A × List B)). with_last (and_more (adds s)) ((a, added_to opens adds ss) ∷ gs)) is)

-- ---- subsystems and actors

-- nothing more
pub nothing_more : {A B : Type 0} (gs : List (A × List B)) → with_last (and_more []) gs ≡ gs
nothing_more {A = A} {B = B} gs = unchanged_last (and_more []) gs (λ (g : A × List B). ap (λ (r : List B). (g.0, r)) (append-nil g.1))

pub subs_more : (ss : List Statement) (s : Statement) → subs_in (ss ++ s ∷ []) ≡ subs_and (subs_in ss) s
subs_more ss (says.Sub sub) = ap (map with_rules) (opening opened_sub rules_of ss (says.Sub sub) sub refl) ∙ map-append with_rules (groups_in opened_sub rules_of ss) ((sub, []) ∷ [])
subs_more ss (says.Rule rule) =
    ap (map with_rules) (adding opened_sub rules_of ss (says.Rule rule) refl)
    ∙ mapped_last with_rules (and_more (rule ∷ [])) (one_rule_more rule) (groups_in opened_sub rules_of ss) (λ g. refl)
subs_more ss other = ap (map with_rules) (adding opened_sub rules_of ss other refl ∙ nothing_more (groups_in opened_sub rules_of ss))

pub actors_more : (ss : List Statement) (s : Statement) → actors_in (ss ++ s ∷ []) ≡ actors_and (actors_in ss) s
actors_more ss says.Actor = ap (map (λ g. g.1)) (opening opened_actor ops_of ss says.Actor tt refl) ∙ map-append (λ g. g.1) (groups_in opened_actor ops_of ss) ((tt, []) ∷ [])
actors_more ss (says.Operation op) =
    ap (map (λ g. g.1)) (adding opened_actor ops_of ss (says.Operation op) refl)
    ∙ mapped_last (λ g. g.1) (and_more (op ∷ [])) (one_op_more op) (groups_in opened_actor ops_of ss) (λ g. refl)
actors_more ss other = ap (map (λ g. g.1)) (adding opened_actor ops_of ss other refl ∙ nothing_more (groups_in opened_actor ops_of ss))

pub script_more : (ss : List Statement) (s : Statement) → script_in (ss ++ s ∷ []) ≡ contents_and (script_in ss) s
script_more ss s =
    let cpus = value_in_more cpus_or 0 ss s in
    let absent = value_in_more absent_or [] ss s in
    let schedule = value_in_more schedule_or Rounds ss s in
    rw (cpus, absent, schedule, subs_more ss s, actors_more ss s) refl
