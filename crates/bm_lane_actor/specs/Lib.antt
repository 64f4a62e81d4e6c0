-- All of these must be believed. LaneStates: what the state of a lane's actor is, and what each of
-- its calls does to the lane. ConnectionState, ResumeTimer, PeerTimer, StepMeter: how a lane is
-- connected, and what is counted on it.
pub mod LaneStates
pub mod ConnectionState
pub mod ResumeTimer
pub mod PeerTimer
pub mod StepMeter
-- LanePolicy: what is done about the worker's connection, and about a link that waits for the lane.
-- LaneLaws: what follows of it, whatever comes.
pub mod LanePolicy
pub mod LaneLaws
-- LaneActors: what a lane's actor is, and what it does by each thing that comes.
pub mod LaneActors
-- LaneEvents: what is told of a lane, and what follows. Login: what a connection is once it has
-- logged in. LoginFates: what becomes of it at a lane that is up. LoginRefusals: why another one
-- was not taken up.
pub mod LaneEvents
pub mod Login
pub mod LoginFates
pub mod LoginRefusals
-- CancelPolicy: which step a cancel of a build ends, what is told of it, and what is interrupted.
-- StepMachine: what a build does with its steps, by that policy and by their limits. StepLaws: what
-- follows of it, whatever comes.
pub mod CancelPolicy
pub mod StepMachine
pub mod StepLaws
-- Ports: what a build's port to a lane is, and answers. StartProgress: how far a build has come
-- with a command that it wants to have started. ByteCount: how many bytes an update carries.
pub mod Ports
pub mod StartProgress
pub mod ByteCount
-- StopOrders: which order to interrupt a command is sent, and which is kept. ReadWatch: when a link
-- is read no more until something comes.
pub mod StopOrders
pub mod ReadWatch
-- What a gate of a pool answers. How many connections may wait for their login, and which of them
-- makes room for another.
pub mod Gates
pub mod LoginLimits
pub mod PendingTable
-- CallTimes: how long the calls of a worker's connection may take. StreamCalls: what they come to.
pub mod CallTimes
pub mod StreamCalls
-- Arrivals: what a wait of an actor came to. Mailboxes: what comes back of what is sent there.
pub mod Arrivals
pub mod Mailboxes
