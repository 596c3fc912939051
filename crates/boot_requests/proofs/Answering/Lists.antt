-- Events that a keeper takes one after the other: the lines of the replies, and the answers.
use Rattle.std.proofs.Common.{◌≡◌, ℕ, ◌+◌, ◌<◌, ◌≤◌, List, [], ◌∷◌, ◌++◌, length, take, get_or, map, Option, refl, sym, ap, subst, ◌∙◌, append-nil}
use Rattle.std.specs.List.{AllByRecursion}
use Rattle.std.proofs.lemmas.List.{take_all, take_more, map-append}
use Rattle.std.proofs.lemmas.Grind.{flat_map-append}
use Rattle.boot_requests.specs.declared.answer.Answer.{Answer}
use Rattle.boot_requests.specs.declared.event.Event.{Event}
use Rattle.boot_requests.specs.declared.reply.Reply.{Reply}
use Rattle.boot_requests.specs.State.{State}
use Rattle.boot_requests.specs.Seen.{Seen, IsEvent, IsSeen, AreSeen}
use Rattle.boot_requests.specs.Run.{run_followed_by, state_at}
use Rattle.boot_requests.specs.Turn.{Plain, Turn, Turns}
use Rattle.boot_requests.specs.Keeper.{StandsFor}
use Rattle.boot_requests.specs.Words.{line_of}
use Rattle.boot_requests.specs.Followers.{request_of, AreFollowers, TellFollowers}
use Rattle.boot_requests.specs.Answering.{replies_of, requests_of, AreReplied, AreAnswered, IsAnswered}
use Rattle.boot_requests.specs.Happens.{answer_lines}
use Rattle.boot_requests.proofs.Turn.Turns.{turn_goes_on}
use Rattle.boot_requests.proofs.Turn.Sequences.{seen_last, turns_go_on, Ran, ran_more}

-- ---- replies

-- no event was taken yet
ran_none : (k : Plain) (events : List Event) → Ran k events [] 0 k []
ran_none k events = record { answers = []; kept = refl; len = refl; turns = stays }
  where
    stays : (seen : List Seen) → AreSeen (take 0 events) seen → Turns k seen k []
    stays [] h = (refl, refl)
    stays (seen ∷ later) h = absurd h

-- events of bytes are read, if each is
read_as : ((event : Event) → IsEvent event → (seen : Seen) × IsSeen event seen) → (events : List Event) → AllByRecursion IsEvent events
    → (seen : List Seen) × AreSeen events seen
read_as each [] valid = ([], tt)
read_as each (event ∷ events) valid =
    let first = each event valid.0 in
    let rest = read_as each events valid.1 in
    (first.0 ∷ rest.0, (first.1, rest.1))

-- what was taken, if it is all
replied : ((event : Event) → IsEvent event → (seen : Seen) × IsSeen event seen) → (from to : Plain) (events : List Event) (count : ℕ) (replies : List Reply)
    → Ran from events [] count to replies → length events ≤ count → AllByRecursion IsEvent events → AreReplied from events to replies
replied each from to events count replies ran all valid start run stands =
    let seen = read_as each events valid in
    let read : AreSeen (take count events) seen.0 = subst (λ (es : List Event). AreSeen es seen.0) (sym (take_all count events all)) seen.1 in
    let turns : Turns from seen.0 to replies = subst (λ (rs : List Reply). Turns from seen.0 to rs) (sym ran.kept) (ran.turns seen.0 read) in
    let on = turns_go_on from to start run seen.0 replies stands turns in
    record { seen = seen.0; read = seen.1; stands = on.0; replied = on.1 }

-- ---- lines

-- so many of the events were taken, and these are the lines of the replies
pub record AreLines (from : Plain) (events : List Event) (count : ℕ) (to : Plain) (lines : List ℕ) : Type 0 where
  pub replies : List Reply
  pub ran : Ran from events [] count to replies
  pub lines_are : lines ≡ answer_lines replies

pub no_lines : (k : Plain) (events : List Event) (lines : List ℕ) → lines ≡ [] → AreLines k events 0 k lines
no_lines k events lines none = record { replies = []; ran = ran_none k events; lines_are = none }

lines_last : (replies : List Reply) (reply : Reply) → answer_lines (replies ++ reply ∷ []) ≡ answer_lines replies ++ (line_of reply ++ 10 ∷ [])
lines_last replies reply =
    flat_map-append (λ (r : Reply). line_of r ++ 10 ∷ []) replies (reply ∷ [])
    ∙ ap (λ (l : List ℕ). answer_lines replies ++ l) (append-nil (line_of reply ++ 10 ∷ []))

pub lines_more : (from mid to : Plain) (events : List Event) (event : Event) (count : ℕ) (lines more : List ℕ) (reply : Reply)
    → AreLines from events count mid lines → count < length events → event ≡ get_or events count event
    → ((seen : Seen) → IsSeen event seen → Turn mid seen to reply) → more ≡ lines ++ (line_of reply ++ 10 ∷ []) → AreLines from events (count + 1) to more
lines_more from mid to events event count lines more reply so_far below here turn is = record {
  replies = so_far.replies ++ reply ∷ [];
  ran = ran_more from mid to events event [] so_far.replies (so_far.replies ++ reply ∷ []) reply count so_far.ran below here refl turn;
  lines_are = is ∙ ap (λ (l : List ℕ). l ++ (line_of reply ++ 10 ∷ [])) so_far.lines_are ∙ sym (lines_last so_far.replies reply);
}

pub all_lines : ((event : Event) → IsEvent event → (seen : Seen) × IsSeen event seen) → (from to : Plain) (events : List Event) (count : ℕ) (lines : List ℕ)
    → AreLines from events count to lines → length events ≤ count → AllByRecursion IsEvent events
    → (replies : List Reply) × AreReplied from events to replies × (lines ≡ answer_lines replies)
all_lines each from to events count lines so_far all valid =
    (so_far.replies, replied each from to events count so_far.replies so_far.ran all valid, so_far.lines_are)

-- ---- answers

-- so many of the events were taken, with these answers
pub record AreTaken (from : Plain) (events : List Event) (count : ℕ) (to : Plain) (answers : List Answer) : Type 0 where
  pub ran : Ran from events [] count to (replies_of answers)
  pub requests : (seen : List Seen) → AreSeen (take count events) seen → requests_of answers ≡ map request_of seen
  pub followers : (start : State) (run seen : List Seen) → StandsFor from start run → AreSeen (take count events) seen → TellFollowers start run seen answers

pub none_taken : (k : Plain) (events : List Event) (answers : List Answer) → answers ≡ [] → AreTaken k events 0 k answers
none_taken k events answers none =
    subst (λ (l : List Answer). AreTaken k events 0 k l) (sym none) (record { ran = ran_none k events; requests = no_requests; followers = no_followers })
  where
    no_requests : (seen : List Seen) → AreSeen (take 0 events) seen → requests_of [] ≡ map request_of seen
    no_requests [] h = refl
    no_requests (seen ∷ later) h = absurd h

    no_followers : (start : State) (run seen : List Seen) → StandsFor k start run → AreSeen (take 0 events) seen → TellFollowers start run seen []
    no_followers start run [] stands h = refl
    no_followers start run (seen ∷ later) stands h = absurd h

followers_last : (start : State) (past front : List Seen) (last : Seen) (answers : List Answer) (answer : Answer) → TellFollowers start past front answers →
    let run = run_followed_by past front in AreFollowers (state_at start run).next_number (state_at start (last ∷ run)) answer.reply answer.followers.items →
    TellFollowers start past (front ++ last ∷ []) (answers ++ answer ∷ [])
followers_last start past [] last [] answer tell are = (are, refl)
followers_last start past [] last (first ∷ answers) answer tell are = absurd (let none : first ∷ answers ≡ [] = tell in cc)
followers_last start past (s ∷ front) last [] answer tell are = absurd tell
followers_last start past (s ∷ front) last (first ∷ answers) answer tell are = (tell.0, followers_last start (s ∷ past) front last answers answer tell.1 are)

module _ (from mid to : Plain) (events : List Event) (event : Event) (count : ℕ) (answers : List Answer) (answer : Answer)
    (so_far : AreTaken from events count mid answers)
    (below : count < length events) (here : event ≡ get_or events count event) (is : IsAnswered mid event to answer) where
  -- what the events so far and this one are read as
  parts : (seen : List Seen) → AreSeen (take (count + 1) events) seen
      → (front : List Seen) × (last : Seen) × (seen ≡ front ++ last ∷ []) × AreSeen (take count events) front × IsSeen event last
  parts seen h =
      let more : take (count + 1) events ≡ take count events ++ event ∷ [] =
      take_more events count event below ∙ ap (λ (e : Event). take count events ++ e ∷ []) (sym here) in
      seen_last (take count events) event seen (subst (λ (es : List Event). AreSeen es seen) more h)

  requests_more : (seen : List Seen) → AreSeen (take (count + 1) events) seen → requests_of (answers ++ answer ∷ []) ≡ map request_of seen
  requests_more seen h =
      let p = parts seen h in
      map-append (λ (a : Answer). a.request) answers (answer ∷ [])
      ∙ ap (λ (l : List (Option ℕ)). l ++ answer.request ∷ []) (so_far.requests p.0 p.3)
      ∙ ap (λ (r : Option ℕ). map request_of p.0 ++ r ∷ []) (is.request p.1 p.4)
      ∙ sym (map-append request_of p.0 (p.1 ∷ []))
      ∙ ap (map request_of) (sym p.2)

  followers_more : (start : State) (run seen : List Seen) → StandsFor from start run → AreSeen (take (count + 1) events) seen
      → TellFollowers start run seen (answers ++ answer ∷ [])
  followers_more start run seen stands h =
      let p = parts seen h in
      let past = run_followed_by run p.0 in
      let before = turns_go_on from mid start run p.0 so_far.ran.answers stands (so_far.ran.turns p.0 p.3) in
      let after = turn_goes_on mid start past before.0 p.1 to answer.reply (is.turn p.1 p.4) in
      let now : AreFollowers (state_at start past).next_number (state_at start (p.1 ∷ past)) answer.reply answer.followers.items =
      subst (λ (m : State). AreFollowers m.next_number (state_at start (p.1 ∷ past)) answer.reply answer.followers.items) before.0.state
      (subst (λ (m : State). AreFollowers mid.state.next_number m answer.reply answer.followers.items) after.0.state is.followers) in
      subst (λ (s : List Seen). TellFollowers start run s (answers ++ answer ∷ [])) (sym p.2)
      (followers_last start run p.0 p.1 answers answer (so_far.followers start run p.0 stands p.3) now)

  pub taken_more : AreTaken from events (count + 1) to (answers ++ answer ∷ [])
  taken_more = record {
    ran = subst (λ (rs : List Reply). Ran from events [] (count + 1) to rs) (sym (map-append (λ (a : Answer). a.reply) answers (answer ∷ [])))
        (ran_more from mid to events event [] (replies_of answers) (replies_of answers ++ answer.reply ∷ []) answer.reply count so_far.ran below here
        refl is.turn);
    requests = requests_more;
    followers = followers_more;
  }

pub all_taken : ((event : Event) → IsEvent event → (seen : Seen) × IsSeen event seen)
    → (from to : Plain) (events : List Event) (count : ℕ) (answers : List Answer)
    → AreTaken from events count to answers → length events ≤ count → AllByRecursion IsEvent events → AreAnswered from events to answers
all_taken each from to events count answers so_far all valid start run stands =
    let lead = replied each from to events count (replies_of answers) so_far.ran all valid start run stands in
    let read : AreSeen (take count events) lead.seen = subst (λ (es : List Event). AreSeen es lead.seen) (sym (take_all count events all)) lead.read in
    record { lead = lead; requests = so_far.requests lead.seen read; followers = so_far.followers start run lead.seen stands read }
