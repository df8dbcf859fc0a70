mod NoneServed
mod Steps
